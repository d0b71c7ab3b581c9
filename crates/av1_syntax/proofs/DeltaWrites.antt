-- What calls that code the deltas of the loop filter write.
use Rattle.std.proofs.Common.{◌≡◌, ℕ, suc, ◌+◌, ◌-◌, ◌^◌, ◌<◌, ◌≤◌, List, [], ◌∷◌, ◌++◌, Bool, true, false, Result, if◌then◌else◌, nat_eq, length, take, refl, sym, ap, subst, ◌∙◌, arith, ℤ, pos, negsuc, w8}
use mir.Val.{SFits}
use Rattle.std.specs.Prelude.{OnOk, OnErr}
use Rattle.std.proofs.lemmas.Bool.Decides.{nat_tests}
use Rattle.std.proofs.lemmas.List.{length-take-le, take_more}
use Rattle.av1_cdf.specs.Distribution.{Distribution, Even, HasSymbols}
use Rattle.av1_cdf.proofs.Cells.{lt_is}
use Rattle.av1_geometry.specs.Cfl.{magnitude}
use Rattle.av1_model.specs.Comes.{Standing, Stores, Comes, Writes, Begins, Wrote}
use Rattle.av1_model.specs.Element.{known, symbol}
use Rattle.av1_model.specs.Syntax.{Syntax, Leads}
use Rattle.av1_model.specs.Syntax.Syntax.{Bad, Done}
use Rattle.av1_model.proofs.ComesLaws.{comes_by, comes_then, comes_as, writes_first, begins_first, begins_then, begins_none, wrote_then, wrote_as}
use Rattle.av1_syntax.specs.Calls.{Context, coded_in, learnt_in}
use Rattle.av1_syntax.specs.Deltas.{rest_of, rest_element, size_after, size_element, signed_of, sign_bit, sign_element, delta_element, delta_at, deltas_after, delta_slot, delta_count, deltas_element, AreDeltas}
use Rattle.av1_syntax.specs.Literals.{literal}
use Rattle.av1_syntax.proofs.DeltaReads.{IsRest, rest_of_reads, size_reads, sign_reads, signed_told, deltas_read, deltas_are, zero_is}
use Rattle.av1_syntax.proofs.Writing.{wrote_by, chosen_last}

abbrev Numbers : Type 0
Numbers = Standing Context

pub rest_begun : (n a : ℕ) (old new : Numbers) → n < 8 → IsRest n a → Begins coded_in learnt_in (literal 3).tree n old new → Begins coded_in learnt_in rest_element.tree a old new
rest_begun n a old new l h b = begins_first coded_in learnt_in (literal 3).tree (λ n. (rest_of n).tree) n a ((rest_of n).symbols a) old new ((rest_of_reads n l).leads a h) b

pub rest_wrote : {U E : Type 0} (r : Result U E) (n a v : ℕ) (old mid new : Numbers) → v + 2 ^ (n + 1) + 1 ≡ a → Writes coded_in learnt_in (literal 3).tree n old mid → Wrote coded_in learnt_in r (literal (n + 1)).tree v mid new →
    Wrote coded_in learnt_in r rest_element.tree a old new
rest_wrote r n a v old mid new e h w =
    wrote_then coded_in learnt_in r rest_element.tree (rest_of n).tree a old mid new (writes_first coded_in learnt_in (literal 3).tree (λ n. (rest_of n).tree) n old mid h)
    (wrote_as coded_in learnt_in r (literal (n + 1)).tree (λ v. Done (v + 2 ^ (n + 1) + 1)) v a mid new (ap Done e) w)

small_tree : (s a : ℕ) → s ≡ a → a < 3 → (size_after s).tree ≡ Done a
small_tree s a e l = ap (λ (b : Bool). if b then Done s else (if nat_eq s 3 then rest_element.tree else Bad)) (lt_is s 3 (omega (arith, e, l))) ∙ ap Done e

large_tree : (s : ℕ) → s ≡ 3 → (size_after s).tree ≡ rest_element.tree
large_tree s e = ap (λ s. (size_after s).tree) e

pub size_small : (q : Distribution) (s a : ℕ) (old new : Numbers) → s ≡ a → a < 3 → Stores coded_in learnt_in q s old new → Writes coded_in learnt_in (size_element q).tree a old new
size_small q s a old new e l h = comes_by coded_in learnt_in (Done a) q (λ s. (size_after s).tree) s old new (small_tree s a e l) h

pub size_wrote : {U E : Type 0} (r : Result U E) (q : Distribution) (s a : ℕ) (old mid new : Numbers) → s ≡ 3 → Stores coded_in learnt_in q s old mid → Wrote coded_in learnt_in r rest_element.tree a mid new →
    Wrote coded_in learnt_in r (size_element q).tree a old new
size_wrote r q s a old mid new e h w =
    wrote_then coded_in learnt_in r (size_element q).tree rest_element.tree a old mid new (comes_by coded_in learnt_in rest_element.tree q (λ s. (size_after s).tree) s old mid (large_tree s e) h) w

pub size_begun : (q : Distribution) (a : ℕ) (old new : Numbers) → HasSymbols q 4 → a ≤ 512 → new ≡ old → Begins coded_in learnt_in (size_element q).tree a old new
size_begun q a old new has l e = begins_none coded_in learnt_in (size_element q).tree ((size_element q).symbols a) a old new ((size_reads q has).leads a l) e

pub delta_begun : (q : Distribution) (d : ℤ) (a : ℕ) (old new : Numbers) → a ≡ magnitude d → Begins coded_in learnt_in (size_element q).tree a old new → Begins coded_in learnt_in (delta_element q).tree d old new
delta_begun q d a old new e b =
    begins_first coded_in learnt_in (size_element q).tree (λ a. (sign_element a).tree) (magnitude d) d ((sign_element (magnitude d)).symbols d) old new ((sign_reads (magnitude d)).leads d refl)
    (subst (λ a. Begins coded_in learnt_in (size_element q).tree a old new) e b)

sized : (q : Distribution) (d : ℤ) (a : ℕ) (old new : Numbers) → a ≡ magnitude d → Writes coded_in learnt_in (size_element q).tree a old new → Comes coded_in learnt_in (delta_element q).tree (sign_element (magnitude d)).tree old new
sized q d a old new e h =
    writes_first coded_in learnt_in (size_element q).tree (λ a. (sign_element a).tree) (magnitude d) old new (subst (λ a. Writes coded_in learnt_in (size_element q).tree a old new) e h)

pub delta_none : (q : Distribution) (d : ℤ) (a : ℕ) (old new : Numbers) → a ≡ magnitude d → a ≡ 0 → Writes coded_in learnt_in (size_element q).tree a old new → Writes coded_in learnt_in (delta_element q).tree d old new
delta_none q d a old new e z h =
    let t : nat_eq (magnitude d) 0 ≡ true = ap (λ n. nat_eq n 0) (sym e ∙ z) in
    let tree = ap (λ (b : Bool). if b then Done (pos 0) else (symbol Even (signed_of (magnitude d)) sign_bit).tree) t ∙ ap Done (sym (zero_is d (sym e ∙ z))) in
    comes_as coded_in learnt_in (delta_element q).tree (sign_element (magnitude d)).tree (Done d) old new new (sized q d a old new e h) tree refl

pub delta_wrote : {U E : Type 0} (r : Result U E) (q p : Distribution) (d : ℤ) (a s : ℕ) (old mid new : Numbers) → a ≡ magnitude d → 1 ≤ a → p ≡ Even → s ≡ sign_bit d → Writes coded_in learnt_in (size_element q).tree a old mid →
    OnOk r (Stores coded_in learnt_in p s mid new) → OnErr r (new ≡ mid) → Wrote coded_in learnt_in r (delta_element q).tree d old new
delta_wrote r q p d a s old mid new e some is sign h ok err =
    let f : nat_eq (magnitude d) 0 ≡ false = grind (arith, nat_tests, e, some) in
    wrote_then coded_in learnt_in r (delta_element q).tree (sign_element (magnitude d)).tree d old mid new (sized q d a old mid e h)
    (chosen_last r (nat_eq (magnitude d) 0) (known (pos 0)) (symbol Even (signed_of (magnitude d)) sign_bit) d mid new f (wrote_by r p Even (signed_of (magnitude d)) sign_bit s d mid new is sign (signed_told d (magnitude d) refl) ok err))

-- a delta more
module _ (q : ℕ → Distribution) (count : ℕ) (ds : List ℤ) (are : AreDeltas 512 count ds) (four : count ≤ 4) (k : ℕ) (before : k < count) (t : Syntax Distribution (List ℤ)) (old mid new : Numbers)
    (came : Comes coded_in learnt_in t (deltas_after q (take k ds) (count - k)).tree old mid) where
  abbrev m : ℕ
  m = count - (k + 1)

  abbrev d : ℤ
  d = delta_at ds k

  left : count - k ≡ suc m
  left = omega (arith, before)

  inside : k < length ds
  inside = omega (arith, before, four, are.four)

  long : length (take k ds) ≡ k
  long = length-take-le k ds (omega (arith, inside))

  came_here : Comes coded_in learnt_in t (deltas_after q (take k ds) (suc m)).tree old mid
  came_here = subst (λ n. Comes coded_in learnt_in t (deltas_after q (take k ds) n).tree old mid) left came

  pub deltas_step : Writes coded_in learnt_in (delta_element (q k)).tree d mid new → Comes coded_in learnt_in t (deltas_after q (take (k + 1) ds) m).tree old new
  deltas_step w =
      let w' = subst (λ n. Writes coded_in learnt_in (delta_element (q n)).tree d mid new) (sym long) w in
      subst (λ (xs : List ℤ). Comes coded_in learnt_in t (deltas_after q xs m).tree old new) (sym (take_more ds k (pos 0) inside))
      (comes_then coded_in learnt_in t (deltas_after q (take k ds) (suc m)).tree (deltas_after q (take k ds ++ d ∷ []) m).tree old mid new came_here
      (writes_first coded_in learnt_in (delta_element (q (length (take k ds)))).tree (λ d. (deltas_after q (take k ds ++ d ∷ []) m).tree) d mid new w'))

  pub deltas_begun : ((k : ℕ) → k < 4 → HasSymbols (q k) 4) → Begins coded_in learnt_in (delta_element (q k)).tree d mid new → Begins coded_in learnt_in t ds old new
  deltas_begun has b =
      let b' = subst (λ n. Begins coded_in learnt_in (delta_element (q n)).tree d mid new) (sym long) b in
      let rest = deltas_after q (take (k + 1) ds) m in
      let long' = length-take-le (k + 1) ds (omega (arith, inside)) in
      let leads = (deltas_read q (take (k + 1) ds) m (λ j l. has j (omega (arith, l, long', before, four)))).leads ds (deltas_are count ds are four m (k + 1) (omega (arith, before))) in
      begins_then coded_in learnt_in t (deltas_after q (take k ds) (suc m)).tree ds old mid new came_here
      (begins_first coded_in learnt_in (delta_element (q (length (take k ds)))).tree (λ d. (deltas_after q (take k ds ++ d ∷ []) m).tree) d ds (rest.symbols ds) mid new
      (subst (λ (xs : List ℤ). Leads (deltas_after q xs m).tree (rest.symbols ds) ds) (take_more ds k (pos 0) inside) leads) b')

-- all deltas
pub deltas_end : (q : ℕ → Distribution) (count : ℕ) (ds : List ℤ) → AreDeltas 512 count ds → count ≤ 4 → (t : Syntax Distribution (List ℤ)) (old new : Numbers) → Comes coded_in learnt_in t (deltas_after q (take count ds) (count - count)).tree old new →
    Writes coded_in learnt_in t ds old new
deltas_end q count ds are four t old new h =
    let z : count - count ≡ 0 = omega arith in
    comes_as coded_in learnt_in t (deltas_after q (take count ds) 0).tree (Done ds) old new new (subst (λ n. Comes coded_in learnt_in t (deltas_after q (take count ds) n).tree old new) z h) (ap Done (sym (deltas_are count ds are four 0 count (omega arith)))) refl

pub deltas_512 : (count : ℕ) (ds : List ℤ) → AreDeltas 63 count ds → AreDeltas 512 count ds
deltas_512 count ds are = record { four = are.four; small = λ k l. let s = are.small k l in omega (arith, s); none = are.none }

-- by other names of the count and of the deltas
pub deltas_as : {U E : Type 0} (r : Result U E) (multi : Bool) (planes count : ℕ) (ds es : List ℤ) (old new : Numbers) → count ≡ delta_count multi planes → ds ≡ es → Wrote coded_in learnt_in r (deltas_after (delta_slot multi) [] count).tree ds old new →
    Wrote coded_in learnt_in r (deltas_element multi planes).tree es old new
deltas_as r multi planes count ds es old new e f w =
    subst (λ (xs : List ℤ). Wrote coded_in learnt_in r (deltas_element multi planes).tree xs old new) f (subst (λ n. Wrote coded_in learnt_in r (deltas_after (delta_slot multi) [] n).tree ds old new) e w)

-- a small delta is one of the code's numbers
pub small_fits : (d : ℤ) → magnitude d ≤ 63 → SFits w8 d
small_fits (pos n) h = record { sfits = omega (arith, h) }
small_fits (negsuc n) h = record { sfits = omega (arith, h) }
