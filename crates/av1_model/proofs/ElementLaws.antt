-- Elements that are put together have one path to each value where their parts have.
use Rattle.std.proofs.Common.{◌≡◌, ℕ, suc, ◌+◌, ◌≤◌, ◌++◌, ◌∷◌, [], List, ◌∙◌, sym, ap, subst, refl, arith, Bool, true, false, if◌then◌else◌, Option, Some, None, inl, inr}
use Rattle.std.proofs.lemmas.Bool.{cases_lt}
use Rattle.std.proofs.lemmas.List.{append-nil, length-append}
use Rattle.std.specs.Option.{option_map_or}
use Rattle.av1_model.specs.Comes.{Standing, stored_along, Writes, Begins}
use Rattle.av1_model.specs.Element.{Element, nothing, known, ask, symbol, choose, after, renamed, tested, where_some, Asks, Reads, Keeps}
use Rattle.av1_model.specs.Paths.{context_along}
use Rattle.av1_model.specs.Reading.{Fits}
use Rattle.av1_model.specs.Syntax.{Syntax, Leads, bind}
use Rattle.av1_model.specs.Syntax.Syntax.{Bad, Done, Ask}
use Rattle.av1_model.proofs.ComesLaws.{begins_front}
use Rattle.av1_model.proofs.TreeLaws.{leads_then, leads_apart}

pub never : {Q A : Type 0} (ss : List ℕ) (a : A) → Leads {Q = Q} Bad ss a → ⊥
never [] a h = cc
never (s ∷ ss) a h = cc

pub done_apart : {Q A : Type 0} (x a : A) (ss : List ℕ) → Leads {Q = Q} (Done x) ss a → (ss ≡ []) × (x ≡ a)
done_apart x a [] h = (refl, let e : x ≡ a = cc in e)
done_apart x a (s ∷ ss) h = absurd cc

module _ {Q : Type 0} (IsOne : Q → ℕ → Type 0) where
  pub asks_bind : {A B : Type 0} (t : Syntax Q A) (f : A → Syntax Q B) → Asks IsOne t → ((a : A) (ss : List ℕ) → Leads t ss a → Asks IsOne (f a)) → Asks IsOne (bind t f)
  asks_bind Bad f h g = tt
  asks_bind (Done a) f h g = g a [] refl
  asks_bind (Ask q k) f (n, one, past, each) g = (n, one, λ s l. ap (λ x. bind x f) (past s l), λ s l. asks_bind (k s) f (each s l) (λ a ss e. g a (s ∷ ss) e))

  -- each symbol of a path of such a tree fits, and the context stays valid
  pub fits_asked : {A C : Type 0} (contents : C → Q → List ℕ) (adapted : C → Q → ℕ → C) (AreValid : C → Type 0) → Keeps IsOne contents adapted AreValid →
      (t : Syntax Q A) (ss : List ℕ) (a : A) (c : C) → AreValid c → Asks IsOne t → Leads t ss a → Fits contents adapted t ss c × AreValid (context_along contents adapted t ss c)
  fits_asked contents adapted AreValid keeps t [] a c v h l = (tt, v)
  fits_asked contents adapted AreValid keeps Bad (s ∷ ss) a c v h l = absurd cc
  fits_asked contents adapted AreValid keeps (Done b) (s ∷ ss) a c v h l = absurd cc
  fits_asked contents adapted AreValid keeps (Ask q k) (s ∷ ss) a c v (n, one, past, each) l =
      elim (cases_lt s n) [
        | inl b ↦
            let r = fits_asked contents adapted AreValid keeps (k s) ss a (adapted c q s) (keeps.learnt c q n s v one b) (each s b) l in
            let long = keeps.long c q n v one in
            ((keeps.valid c q n v one, omega (arith, long, b), r.0), r.1)
        | inr b ↦ absurd (never ss a (subst (λ x. Leads x ss a) (past s b) l))
      ]

  pub nothing_reads : {A : Type 0} (P : A → Type 0) → ((a : A) → P a → ⊥) → Reads IsOne (nothing {Q = Q} {A = A}) P 0
  nothing_reads P none = record { leads = λ a h. absurd (none a h); one_path = λ a ss h. absurd (never ss a h); asks = tt; few = λ a h. omega arith }

  pub known_reads : {A : Type 0} (x : A) → Reads IsOne (known {Q = Q} x) (λ a. a ≡ x) 0
  known_reads x = record {
    leads = λ a h. ap Done (sym h);
    one_path = λ a ss h. let d = done_apart x a ss h in (sym d.1, d.0);
    asks = tt;
    few = λ a h. omega arith;
  }

  -- the same values in other words, and a greater bound
  pub reads_as : {A : Type 0} (e : Element Q A) (P R : A → Type 0) (m n : ℕ) → ((a : A) → P a → R a) → ((a : A) → R a → P a) → m ≤ n → Reads IsOne e P m → Reads IsOne e R n
  reads_as e P R m n to from l r = record {
    leads = λ a h. r.leads a (from a h);
    one_path = λ a ss h. let p = r.one_path a ss h in (to a p.0, p.1);
    asks = r.asks;
    few = λ a h. let b = r.few a (from a h) in omega (arith, b, l);
  }

  -- one symbol and what follows it
  pub ask_reads : {A : Type 0} (q : Q) (n : ℕ) (k : ℕ → Element Q A) (first : A → ℕ) (P : ℕ → A → Type 0) (most : ℕ) → IsOne q n → ((s : ℕ) → n ≤ s → (k s).tree ≡ Bad) →
      ((s : ℕ) (a : A) → P s a → first a ≡ s) → ((s : ℕ) → Reads IsOne (k s) (P s) most) → Reads IsOne (ask q k first) (λ a. P (first a) a) (suc most)
  ask_reads {A} q n k first P most one past tells each = record {
    leads = λ a h. (each (first a)).leads a h;
    one_path = paths;
    asks = (n, one, past, λ s l. (each s).asks);
    few = λ a h. let b = (each (first a)).few a h in omega (arith, b);
  }
    where
      paths : (a : A) (ss : List ℕ) → Leads (ask q k first).tree ss a → P (first a) a × (ss ≡ (ask q k first).symbols a)
      paths a [] h = absurd cc
      paths a (s ∷ ss) h =
          let p = (each s).one_path a ss h in
          let e : s ≡ first a = sym (tells s a p.0) in
          (subst (λ s. P s a) e p.0, ap (λ l. s ∷ l) p.1 ∙ ap (λ s. s ∷ (k s).symbols a) e)

  -- one symbol, which stands for a value or for none
  pub symbol_reads : {A : Type 0} (q : Q) (n : ℕ) (value : ℕ → Option A) (number : A → ℕ) → IsOne q n → ((s : ℕ) → n ≤ s → value s ≡ None) → ((s : ℕ) (a : A) → value s ≡ Some a → number a ≡ s) →
      Reads IsOne (symbol q value number) (λ a. value (number a) ≡ Some a) 1
  symbol_reads {A} q n value number one past tells =
      ask_reads q n (λ s. option_map_or known (value s) nothing) number (λ s a. value s ≡ Some a) 0 one
      (λ s l. ap (λ (o : Option A). (option_map_or known o nothing).tree) (past s l)) tells (λ s. each (value s))
    where
      each : (o : Option A) → Reads IsOne (option_map_or known o nothing) (λ a. o ≡ Some a) 0
      each None = nothing_reads (λ a. None ≡ Some a) (λ a e. cc)
      each (Some x) = reads_as (known x) (λ a. a ≡ x) (λ a. Some x ≡ Some a) 0 0 (λ a e. ap Some (sym e)) (λ a e. let f : x ≡ a = cc in sym f) (omega arith) (known_reads x)

  pub choose_reads : {A : Type 0} (b : Bool) (e f : Element Q A) (P : A → Type 0) (most : ℕ) → (b ≡ true → Reads IsOne e P most) → (b ≡ false → Reads IsOne f P most) → Reads IsOne (choose b e f) P most
  choose_reads true e f P most r s = let t = r refl in record { leads = t.leads; one_path = t.one_path; asks = t.asks; few = t.few }
  choose_reads false e f P most r s = let t = s refl in record { leads = t.leads; one_path = t.one_path; asks = t.asks; few = t.few }

  -- one element after another, where the second value tells the first
  pub after_reads : {A B : Type 0} (e : Element Q A) (f : A → Element Q B) (first : B → A) (P : A → Type 0) (R : A → B → Type 0) (m n : ℕ) →
      ((a : A) (b : B) → P a → R a b → first b ≡ a) → Reads IsOne e P m → ((a : A) → P a → Reads IsOne (f a) (R a) n) → Reads IsOne (after e f first) (λ b. P (first b) × R (first b) b) (m + n)
  after_reads e f first P R m n tells one two = record {
    leads = λ b h. leads_then e.tree (λ a. (f a).tree) (e.symbols (first b)) ((f (first b)).symbols b) (first b) b (one.leads (first b) h.0) ((two (first b) h.0).leads b h.1);
    one_path = λ b ss h.
        let r = leads_apart e.tree (λ a. (f a).tree) ss b h in
        let p = one.one_path r.0 r.1 r.4 in
        let q = (two r.0 p.0).one_path b r.2 r.5 in
        let same : r.0 ≡ first b = sym (tells r.0 b p.0 q.0) in
        ((subst P same p.0, subst (λ a. R a b) same q.0), r.3 ∙ ap (λ xs. xs ++ r.2) (p.1 ∙ ap e.symbols same) ∙ ap (λ ys. e.symbols (first b) ++ ys) (q.1 ∙ ap (λ a. (f a).symbols b) same));
    asks = asks_bind e.tree (λ a. (f a).tree) one.asks (λ a ss h. (two a (one.one_path a ss h).0).asks);
    few = λ b h. let x = one.few (first b) h.0 in let y = (two (first b) h.0).few b h.1 in omega (arith, x, y, length-append (e.symbols (first b)) ((f (first b)).symbols b));
  }

  -- the values by other names
  pub renamed_reads : {A B : Type 0} (e : Element Q A) (name : A → B) (back : B → A) (P : A → Type 0) (R : B → Type 0) (most : ℕ) → ((b : B) → R b → P (back b) × (name (back b) ≡ b)) → ((a : A) → P a → R (name a) × (back (name a) ≡ a)) →
      Reads IsOne e P most → Reads IsOne (renamed e name back) R most
  renamed_reads e name back P R most to from r = record {
    leads = λ b h.
        let p = to b h in
        subst (λ ss. Leads (bind e.tree (λ a. Done (name a))) ss b) (append-nil (e.symbols (back b))) (leads_then e.tree (λ a. Done (name a)) (e.symbols (back b)) [] (back b) b (r.leads (back b) p.0) (ap Done p.1));
    one_path = λ b ss h.
        let x = leads_apart e.tree (λ a. Done (name a)) ss b h in
        let d = done_apart (name x.0) b x.2 x.5 in
        let p = r.one_path x.0 x.1 x.4 in
        let q = from x.0 p.0 in
        (subst R d.1 q.0, x.3 ∙ ap (λ l. x.1 ++ l) d.0 ∙ append-nil x.1 ∙ p.1 ∙ ap e.symbols (sym q.1 ∙ ap back d.1));
    asks = asks_bind e.tree (λ a. Done (name a)) r.asks (λ a ss h. tt);
    few = λ b h. r.few (back b) (to b h).0;
  }

  test_told : {A : Type 0} (b : Bool) (x a : A) (ss : List ℕ) → Leads {Q = Q} (if b then Done x else Bad) ss a → (b ≡ true) × (ss ≡ []) × (x ≡ a)
  test_told true x a ss h = let d = done_apart x a ss h in (refl, d.0, d.1)
  test_told false x a ss h = absurd (never ss a h)

  test_asks : {A : Type 0} (b : Bool) (x : A) → Asks IsOne (if b then Done x else Bad)
  test_asks true x = tt
  test_asks false x = tt

  -- no value but those that pass a test
  pub tested_reads : {A : Type 0} (test : A → Bool) (e : Element Q A) (P : A → Type 0) (most : ℕ) → ((a : A) → test a ≡ true → P a) → Reads IsOne e P most → Reads IsOne (tested test e) (λ a. test a ≡ true) most
  tested_reads {A} test e P most fine r = record {
    leads = λ a h.
        subst (λ ss. Leads (tested test e).tree ss a) (append-nil (e.symbols a))
        (leads_then e.tree (λ a. if test a then Done a else Bad) (e.symbols a) [] a a (r.leads a (fine a h)) (ap (λ (b : Bool). if b then Done a else Bad) h));
    one_path = λ a ss h.
        let x = leads_apart e.tree (λ a. if test a then Done a else Bad) ss a h in
        let d = test_told (test x.0) x.0 a x.2 x.5 in
        let p = r.one_path x.0 x.1 x.4 in
        (ap test (sym d.2) ∙ d.0, x.3 ∙ ap (λ l. x.1 ++ l) d.1 ∙ append-nil x.1 ∙ p.1 ∙ ap e.symbols d.2);
    asks = asks_bind e.tree (λ a. if test a then Done a else Bad) r.asks (λ a ss h. test_asks (test a) a);
    few = λ a h. r.few a (fine a h);
  }

  -- an element that speaks of something
  pub where_some_reads : {A B : Type 0} (o : Option B) (f : B → Element Q A) (P : B → A → Type 0) (most : ℕ) → ((b : B) → o ≡ Some b → Reads IsOne (f b) (P b) most) →
      Reads IsOne (where_some o f) (λ a. (b : B) × (o ≡ Some b) × P b a) most
  where_some_reads None f P most each = record {
    leads = λ a h. absurd (let e = h.1 in cc);
    one_path = λ a ss h. absurd (never ss a h);
    asks = tt;
    few = λ a h. omega arith;
  }
  where_some_reads (Some x) f P most each =
      reads_as (f x) (P x) _ most most (λ a p. (x, refl, p)) (λ a p. let e : x ≡ p.0 = (let h = p.1 in cc) in subst (λ b. P b a) (sym e) p.2) (omega arith) (each x refl)

  -- what is written is the value's own path
  pub writes_path : {A C : Type 0} (contents : C → Q → List ℕ) (adapted : C → Q → ℕ → C) (e : Element Q A) (P : A → Type 0) (most : ℕ) → Reads IsOne e P most → (a : A) (old new : Standing C) →
      Writes contents adapted e.tree a old new → (new ≡ stored_along contents adapted e.tree (e.symbols a) old) × Fits contents adapted e.tree (e.symbols a) old.context
  writes_path contents adapted e P most r a old new w =
      let same = (r.one_path a w.symbols w.follows).1 in
      (w.wrote ∙ ap (λ ss. stored_along contents adapted e.tree ss old) same, subst (λ ss. Fits contents adapted e.tree ss old.context) same w.fits)

  -- and what is begun is a front of it
  pub begins_path : {A C : Type 0} (contents : C → Q → List ℕ) (adapted : C → Q → ℕ → C) (e : Element Q A) (P : A → Type 0) (most : ℕ) → Reads IsOne e P most → (a : A) (old new : Standing C) →
      (b : Begins contents adapted e.tree a old new) → b.comes.symbols ++ b.rest ≡ e.symbols a
  begins_path contents adapted e P most r a old new b = (r.one_path a (b.comes.symbols ++ b.rest) (begins_front contents adapted e.tree a old new b)).1
