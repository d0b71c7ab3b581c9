-- Elements one after another, and decisions: what a call of them writes, and that they have one path to each value.
use Rattle.std.proofs.Common.{◌≡◌, ℕ, suc, ◌+◌, Bool, true, false, if◌then◌else◌, Result, ap, arith}
use Rattle.std.specs.Prelude.{IsErr}
use Rattle.av1_cdf.specs.Distribution.{Distribution, HasSymbols}
use Rattle.av1_cdf.specs.Distribution.Distribution.{Adaptive}
use Rattle.av1_cdf.specs.Layout.{Slot}
use Rattle.av1_model.specs.Comes.{Standing, Wrote, Writes, Begins}
use Rattle.av1_model.specs.Element.{Element, known, choose, after, renamed, Reads}
use Rattle.av1_model.specs.Syntax.{Leads}
use Rattle.av1_model.specs.Syntax.Syntax.{Done}
use Rattle.av1_model.proofs.ComesLaws.{writes_first, begins_first, wrote_then, wrote_as, wrote_err}
use Rattle.av1_model.proofs.ElementLaws.{reads_as, choose_reads, after_reads}
use Rattle.av1_syntax.specs.Calls.{Context, coded_in, learnt_in}
use Rattle.av1_syntax.specs.Decisions.{decide}
use Rattle.av1_syntax.specs.Flags.{flag}
use Rattle.av1_syntax.proofs.Elements.{flag_reads}

abbrev pub Numbers : Type 0
Numbers = Standing Context

-- a call of the first of two elements that is refused
pub first_refused : {A B U E : Type 0} (r : Result U E) (e : Element Distribution A) (f : A → Element Distribution B) (first : B → A) (a : A) (b : B) (old new : Numbers) → IsErr r → Leads (f a).tree ((f a).symbols b) b → Begins coded_in learnt_in e.tree a old new →
    Wrote coded_in learnt_in r (after e f first).tree b old new
first_refused r e f first a b old new is l h = wrote_err coded_in learnt_in r (after e f first).tree b old new is (begins_first coded_in learnt_in e.tree (λ a. (f a).tree) a b ((f a).symbols b) old new l h)

-- a call of the second of two elements, after the first
pub second_wrote : {A B U E : Type 0} (r : Result U E) (e : Element Distribution A) (f : A → Element Distribution B) (first : B → A) (a : A) (b : B) (old mid new : Numbers) → Writes coded_in learnt_in e.tree a old mid → Wrote coded_in learnt_in r (f a).tree b mid new →
    Wrote coded_in learnt_in r (after e f first).tree b old new
second_wrote r e f first a b old mid new h w = wrote_then coded_in learnt_in r (after e f first).tree (f a).tree b old mid new (writes_first coded_in learnt_in e.tree (λ a. (f a).tree) a old mid h) w

-- a call of an element whose values go by other names
pub renamed_wrote : {A B U E : Type 0} (r : Result U E) (e : Element Distribution A) (name : A → B) (back : B → A) (a : A) (b : B) (old new : Numbers) → name a ≡ b → Wrote coded_in learnt_in r e.tree a old new → Wrote coded_in learnt_in r (renamed e name back).tree b old new
renamed_wrote r e name back a b old new same w = wrote_as coded_in learnt_in r e.tree (λ a. Done (name a)) a b old new (ap Done same) w

module _ {A U E : Type 0} (r : Result U E) (test : A → Bool) (s : Slot) (e f : Element Distribution A) (a : A) (b : Bool) (is : b ≡ test a) where
  -- a flag is refused
  pub flag_refused : (old new : Numbers) → IsErr r → Leads (choose b e f).tree ((choose b e f).symbols a) a → Begins coded_in learnt_in (flag (Adaptive s)).tree b old new → Wrote coded_in learnt_in r (decide test s e f).tree a old new
  flag_refused old new err l h = first_refused r (flag (Adaptive s)) (λ b. choose b e f) test b a old new err l h

  -- one of the two elements after its flag
  pub decided : (old mid new : Numbers) → Writes coded_in learnt_in (flag (Adaptive s)).tree b old mid → Wrote coded_in learnt_in r (choose b e f).tree a mid new → Wrote coded_in learnt_in r (decide test s e f).tree a old new
  decided old mid new h w = second_wrote r (flag (Adaptive s)) (λ b. choose b e f) test b a old mid new h w

either_known : {A : Type 0} (x y a : A) (b : Bool) → (if b then x else y) ≡ a → (choose {Q = Distribution} b (known x) (known y)).tree ≡ Done a
either_known x y a true e = ap Done e
either_known x y a false e = ap Done e

-- a flag that tells which of two values it is
pub told_by_flag : {A U E : Type 0} (r : Result U E) (test : A → Bool) (s : Slot) (x y a : A) (b : Bool) (old new : Numbers) → (if b then x else y) ≡ a → Wrote coded_in learnt_in r (flag (Adaptive s)).tree b old new →
    Wrote coded_in learnt_in r (decide test s (known x) (known y)).tree a old new
told_by_flag r test s x y a b old new e w = wrote_as coded_in learnt_in r (flag (Adaptive s)).tree (λ b. (choose b (known x) (known y)).tree) b a old new (either_known x y a b e) w

-- the values of one of two elements
abbrev pub Picked : {A : Type 0} → (A → Type 0) → (A → Type 0) → Bool → A → Type 0
Picked P R true a = P a
Picked P R false a = R a

pub picked_reads : {A : Type 0} (e f : Element Distribution A) (P R : A → Type 0) (m : ℕ) → Reads HasSymbols e P m → Reads HasSymbols f R m → (b : Bool) → Reads HasSymbols (choose b e f) (Picked P R b) m
picked_reads e f P R m y n true = choose_reads HasSymbols true e f P m (λ t. y) (λ t. absurd cc)
picked_reads e f P R m y n false = choose_reads HasSymbols false e f R m (λ t. absurd cc) (λ t. n)

picked_told : {A : Type 0} (test : A → Bool) (P R : A → Type 0) → ((a : A) → P a → test a ≡ true) → ((a : A) → R a → test a ≡ false) → (b : Bool) (a : A) → Picked P R b a → test a ≡ b
picked_told test P R y n true a h = y a h
picked_told test P R y n false a h = n a h

-- a decision between elements of such values, whose flag the value tells
pub decide_reads : {A : Type 0} (test : A → Bool) (s : Slot) (e f : Element Distribution A) (P R V : A → Type 0) (m : ℕ) → HasSymbols (Adaptive s) 2 → ((a : A) → P a → test a ≡ true) → ((a : A) → R a → test a ≡ false) → ((a : A) → Picked P R (test a) a → V a) → ((a : A) → V a → Picked P R (test a) a) →
    Reads HasSymbols e P m → Reads HasSymbols f R m → Reads HasSymbols (decide test s e f) V (suc m)
decide_reads test s e f P R V m has y n to from ry rn =
    reads_as HasSymbols (decide test s e f) (λ a. Unit {0} × Picked P R (test a) a) V (1 + m) (suc m) (λ a h. to a h.1) (λ a h. (tt, from a h)) (omega arith)
    (after_reads HasSymbols (flag (Adaptive s)) (λ b. choose b e f) test (λ b. Unit {0}) (Picked P R) 1 m (λ b a p q. picked_told test P R y n b a q) (flag_reads (Adaptive s) has) (λ b p. picked_reads e f P R m ry rn b))
