-- The diagonal order passes the checks of a scan.
use Rattle.std.proofs.Common.{◌≡◌, ℕ, zero, suc, ◌+◌, ◌-◌, ◌*◌, ◌/◌, ◌%◌, ◌<◌, ◌≤◌, List, [], ◌∷◌, ◌++◌, Bool, true, false, ◌&&◌, ◌||◌, nat_eq, nat_lt, if◌then◌else◌, refl, sym, ◌∙◌, ap, subst, arith, inl, inr, mul_comm}
use Rattle.std.proofs.lemmas.Bool.{cases_lt}
use Rattle.std.proofs.lemmas.List.{append-nil}
use Rattle.std.proofs.lemmas.Nat.{mul-add-lt, div-mul-add, mod-mul-add}
use Rattle.std.proofs.Math.Nat.{div-lt_iff_lt-mul, mod-lt, div-add-mod}
use Rattle.av1_geometry.specs.declared.tx_type.TxClass.{TxClass}
use Rattle.av1_geometry.specs.declared.tx_type.TxClass.TheVariants.{TX_CLASS_2D, TX_CLASS_HORIZ, TX_CLASS_VERT}
use Rattle.av1_coef.specs.Contexts.{Step, base_steps}
use Rattle.av1_coef.specs.Scans.{is_in, all_there, each_once, steps_later, keeps_order}
use Rattle.av1_coef.specs.Diagonal.{diagonal_key, Rises, IsDiagonal, at_key, by_keys}
use Rattle.av1_coef.proofs.Tests.{lt_is, lt_not, le_is, le_not, eq_is, either, both, same, or_assoc}
use Rattle.av1_coef.proofs.ScanSteps.{there_at}

-- the positions of a block whose keys are below n, in order of their keys
pub record IsBegun (w h n : ℕ) (scan : List ℕ) : Type 0 where
  pub rises : Rises h scan
  pub inside : (p : ℕ) → is_in scan p ≡ true → (p < w * h) × (diagonal_key h p < n)
  pub whole : (p : ℕ) → p < w * h → diagonal_key h p < n → is_in scan p ≡ true
  pub is : scan ≡ by_keys w h n

-- the column and the row of a place
place_is : (c h r : ℕ) → r < h → ((c * h + r) / h ≡ c) × ((c * h + r) % h ≡ r)
place_is c h r l = (div-mul-add c h r l, mod-mul-add c h r l)

-- the key of the place at a column and a row
key_at : (h c r : ℕ) → r < h → diagonal_key h (c * h + r) ≡ (c + r) * 64 + c
key_at h c r l = let e = place_is c h r l in ap (λ x. (x + (c * h + r) % h) * 64 + x) e.0 ∙ ap (λ y. (c + y) * 64 + c) e.1

tail_in : (p : ℕ) (ps : List ℕ) (q : ℕ) → (p ≡ q → ⊥) → is_in (p ∷ ps) q ≡ true → is_in ps q ≡ true
tail_in p ps q ne h = elim (either (nat_eq p q)) [ inl e ↦ absurd (ne (same p q e)) | inr e ↦ sym (ap (λ b. b || is_in ps q) e) ∙ h ]

first_in : (p : ℕ) (ps : List ℕ) → is_in (p ∷ ps) p ≡ true
first_in p ps = ap (λ b. b || is_in ps p) (eq_is p p refl)

next_in : (p : ℕ) (ps : List ℕ) (q : ℕ) → is_in ps q ≡ true → is_in (p ∷ ps) q ≡ true
next_in p ps q h = elim (either (nat_eq p q)) [ inl e ↦ ap (λ b. b || is_in ps q) e | inr e ↦ ap (λ b. b || is_in ps q) e ∙ h ]

-- places apart in their keys are apart
apart : (h p q : ℕ) → diagonal_key h p < diagonal_key h q → p ≡ q → ⊥
apart h p q l e = let k : diagonal_key h p ≡ diagonal_key h q = ap (diagonal_key h) e in less_self (diagonal_key h p) (diagonal_key h q) l k
  where
    less_self : (a b : ℕ) → a < b → a ≡ b → ⊥
    less_self a b l e = omega (arith, l, e)

once_of : (area h : ℕ) (scan : List ℕ) → Rises h scan → ((p : ℕ) → is_in scan p ≡ true → p < area) → each_once area scan ≡ true
once_of area h [] r i = refl
once_of area h (p ∷ ps) r i =
    let absent : is_in ps p ≡ false = elim (either (is_in ps p)) [ inl e ↦ absurd (apart h p p (r.0 p e) refl) | inr e ↦ e ] in
    rw (lt_is p area (i p (first_in p ps)), absent, once_of area h ps r.1 (λ q m. i q (next_in p ps q m))) refl

there_of : (n : ℕ) (scan : List ℕ) → ((p : ℕ) → p < n → is_in scan p ≡ true) → all_there n scan ≡ true
there_of zero scan t = refl
there_of (suc n) scan t = rw (t n (omega arith), there_of n scan (λ p l. t p (omega (arith, l)))) refl

-- each step goes on by a column or a row
abbrev Onward : List Step → Type 0
Onward [] = Unit {0}
Onward (s ∷ steps) = (1 ≤ s.columns + s.rows) × Onward steps

base_onward : (class : TxClass) → Onward (base_steps class)
base_onward TX_CLASS_2D = (omega arith, (omega arith, (omega arith, (omega arith, (omega arith, tt)))))
base_onward TX_CLASS_HORIZ = (omega arith, (omega arith, (omega arith, (omega arith, (omega arith, tt)))))
base_onward TX_CLASS_VERT = (omega arith, (omega arith, (omega arith, (omega arith, (omega arith, tt)))))

further : (a b x y : ℕ) → 1 ≤ x + y → (a + b) * 64 + a < ((a + x) + (b + y)) * 64 + (a + x)
further a b x y l = omega (arith, l)

-- where all places with greater keys come later, those at the steps do
steps_of : (w h p : ℕ) (later : List ℕ) (steps : List Step) → Onward steps → ((q : ℕ) → q < w * h → diagonal_key h p < diagonal_key h q → is_in later q ≡ true) → steps_later w h (is_in later) p steps ≡ true
steps_of w h p later [] o t = refl
steps_of w h p later (s ∷ steps) o t =
    let c = p / h + s.columns in
    let r = p % h + s.rows in
    let one : (if nat_lt c w && nat_lt r h then is_in later (c * h + r) else true) ≡ true =
    elim (cases_lt c w) [
      | inl l ↦ elim (cases_lt r h) [
        | inl m ↦ rw (lt_is c w l, lt_is r h m) (t (c * h + r) (omega (arith, mul-add-lt c h r w l m, mul_comm w h)) (rw (key_at h c r m) (further (p / h) (p % h) s.columns s.rows o.0)))
        | inr m ↦ rw (lt_is c w l, lt_not r h m) refl
      ]
      | inr l ↦ rw (lt_not c w l) refl
    ] in
    rw (one, steps_of w h p later steps o.1 t) refl

order_of : (w h bound : ℕ) (class : TxClass) (scan : List ℕ) → Rises h scan → ((q : ℕ) → is_in scan q ≡ true → bound ≤ diagonal_key h q) → ((q : ℕ) → q < w * h → bound ≤ diagonal_key h q → is_in scan q ≡ true) → keeps_order w h (base_steps class) scan ≡ true
order_of w h bound class [] r b t = refl
order_of w h bound class (p ∷ ps) r b t =
    let low = b p (first_in p ps) in
    let after : (q : ℕ) → q < w * h → diagonal_key h p < diagonal_key h q → is_in ps q ≡ true =
    λ q l m. tail_in p ps q (apart h p q m) (t q l (between bound (diagonal_key h p) (diagonal_key h q) low m)) in
    rw (steps_of w h p ps (base_steps class) (base_onward class) after, order_of w h (suc (diagonal_key h p)) class ps r.1 (λ q m. r.0 q m) after) refl
  where
    between : (a b c : ℕ) → a ≤ b → b < c → a ≤ c
    between a b c l m = omega (arith, l, m)

-- the diagonal order keeps the order of each class
pub diagonal_ordered : (w h : ℕ) (class : TxClass) (scan : List ℕ) → IsDiagonal w h scan → keeps_order w h (base_steps class) scan ≡ true
diagonal_ordered w h class scan d =
    order_of w h 0 class scan d.rises (λ q m. omega arith) (λ q l m. there_at (w * h) scan q l (both (each_once (w * h) scan) (all_there (w * h) scan) d.whole).1)

-- the column and the line of a key
key_column : (line c : ℕ) → c < 64 → (64 * line + c) % 64 ≡ c
key_column line c l = omega (arith, l)

key_line : (line c : ℕ) → c < 64 → (64 * line + c) / 64 ≡ line
key_line line c l = omega (arith, l)

-- a place of the block is at its key
at_place : (w h line c : ℕ) → c < 64 → c < w → c ≤ line → line - c < h → at_key w h (64 * line + c) ≡ (c * h + (line - c)) ∷ []
at_place w h line c l a b d = rw (key_column line c l, key_line line c l, lt_is c w a, le_is c line b, lt_is (line - c) h d) refl

-- where no place has a key, nothing is there
at_none : (w h k : ℕ) → ((q : ℕ) → q < w * h → diagonal_key h q ≡ k → ⊥) → at_key w h k ≡ []
at_none w h k none =
    let c = k % 64 in
    let line = k / 64 in
    elim (cases_lt c w) [
      | inl a ↦ elim (cases_lt line c) [
        | inl b ↦ rw (lt_is c w a, le_not c line b) refl
        | inr b ↦ elim (cases_lt (line - c) h) [
          | inl d ↦ absurd (none (c * h + (line - c)) (omega (arith, mul-add-lt c h (line - c) w a d, mul_comm w h)) (key_at h c (line - c) d ∙ whole_key k (k % 64) (k / 64) b refl refl))
          | inr d ↦ rw (lt_is c w a, le_is c line b, lt_not (line - c) h d) refl
        ]
      ]
      | inr a ↦ rw (lt_not c w a) refl
    ]
  where
    whole_key : (k c line : ℕ) → c ≤ line → c ≡ k % 64 → line ≡ k / 64 → (c + (line - c)) * 64 + c ≡ k
    whole_key k c line l e f = omega (arith, l, e, f)

-- keys at which nothing is
keys_skip : (w h n m : ℕ) → n ≤ m → ((k : ℕ) → n ≤ k → k < m → at_key w h k ≡ []) → by_keys w h n ≡ by_keys w h m
keys_skip w h n zero l none = let e : n ≡ 0 = omega (arith, l) in ap (by_keys w h) e
keys_skip w h n (suc m) l none = elim (cases_lt m n) [
  | inl e ↦ let f : n ≡ suc m = omega (arith, l, e) in ap (by_keys w h) f
  | inr e ↦ keys_skip w h n m e (λ k a b. none k a (omega (arith, b))) ∙ sym (ap (λ s. by_keys w h m ++ s) (none m e (omega arith)) ∙ append-nil (by_keys w h m))
]

-- a list that is begun
pub diagonal_start : (w h : ℕ) → IsBegun w h 0 []
diagonal_start w h = record { rises = tt; inside = λ p m. absurd cc; whole = λ p l m. absurd (omega (arith, m)); is = refl }

or_false : (b : Bool) → (b || false) ≡ b
or_false true = refl
or_false false = refl

in_push : (scan : List ℕ) (p q : ℕ) → is_in (scan ++ p ∷ []) q ≡ (is_in scan q || nat_eq p q)
in_push [] p q = or_false (nat_eq p q)
in_push (x ∷ scan) p q = ap (λ b. nat_eq x q || b) (in_push scan p q) ∙ or_assoc (nat_eq x q) (is_in scan q) (nat_eq p q)

rises_push : (h : ℕ) (scan : List ℕ) (p : ℕ) → Rises h scan → ((q : ℕ) → is_in scan q ≡ true → diagonal_key h q < diagonal_key h p) → Rises h (scan ++ p ∷ [])
rises_push h [] p r b = (λ q m. absurd cc, tt)
rises_push h (x ∷ scan) p r b = (
  λ q m. elim (either (is_in scan q)) [
    | inl e ↦ r.0 q e
    | inr e ↦ subst (λ q. diagonal_key h x < diagonal_key h q) (same p q (sym (ap (λ b. b || nat_eq p q) e) ∙ sym (in_push scan p q) ∙ m)) (b x (first_in x scan))
  ],
  rises_push h scan p r.1 (λ q m. b q (next_in x scan q m)),
)

-- the next place
pub diagonal_push : (w h n p : ℕ) (scan : List ℕ) → IsBegun w h n scan → p < w * h → diagonal_key h p ≡ n → ((q : ℕ) → q < w * h → diagonal_key h q ≡ n → q ≡ p) → at_key w h n ≡ p ∷ [] → IsBegun w h (suc n) (scan ++ p ∷ [])
diagonal_push w h n p scan d l k only at = record {
  is = ap (λ s. s ++ p ∷ []) d.is ∙ ap (λ s. by_keys w h n ++ s) (sym at);
  rises = rises_push h scan p d.rises (λ q m. below (diagonal_key h q) n (diagonal_key h p) (d.inside q m).1 k);
  inside = λ q m. elim (either (is_in scan q)) [
    | inl e ↦ let i = d.inside q e in (i.0, more (diagonal_key h q) n i.1)
    | inr e ↦ subst (λ q. (q < w * h) × (diagonal_key h q < suc n)) (same p q (sym (ap (λ b. b || nat_eq p q) e) ∙ sym (in_push scan p q) ∙ m)) (l, last (diagonal_key h p) n k)
  ];
  whole = λ q i m. elim (cases_lt (diagonal_key h q) n) [
    | inl e ↦ in_push scan p q ∙ ap (λ b. b || nat_eq p q) (d.whole q i e)
    | inr e ↦ in_push scan p q ∙ or_true (is_in scan q) (nat_eq p q) (eq_is p q (sym (only q i (level (diagonal_key h q) n m e))))
  ];
}
  where
    below : (a n b : ℕ) → a < n → b ≡ n → a < b
    below a n b l e = omega (arith, l, e)

    more : (a n : ℕ) → a < n → a < suc n
    more a n l = omega (arith, l)

    last : (a n : ℕ) → a ≡ n → a < suc n
    last a n e = omega (arith, e)

    level : (a n : ℕ) → a < suc n → n ≤ a → a ≡ n
    level a n l m = omega (arith, l, m)

    or_true : (a b : Bool) → b ≡ true → (a || b) ≡ true
    or_true true b h = refl
    or_true false b h = h

-- keys that no place has
pub diagonal_skip : (w h n m : ℕ) (scan : List ℕ) → IsBegun w h n scan → n ≤ m → ((q : ℕ) → q < w * h → n ≤ diagonal_key h q → diagonal_key h q < m → ⊥) → IsBegun w h m scan
diagonal_skip w h n m scan d l none = record {
  is = d.is ∙ keys_skip w h n m l (λ k a b. at_none w h k (λ q i e. none q i (omega (arith, a, e)) (omega (arith, b, e))));
  rises = d.rises;
  inside = λ q i. let j = d.inside q i in (j.0, more (diagonal_key h q) n m j.1 l);
  whole = λ q i k. elim (cases_lt (diagonal_key h q) n) [ inl e ↦ d.whole q i e | inr e ↦ absurd (none q i e k) ];
}
  where
    more : (a n m : ℕ) → a < n → n ≤ m → a < m
    more a n m l k = omega (arith, l, k)

-- the column and the row of a position
column_below : (w h q : ℕ) → 0 < h → q < w * h → q / h < w
column_below w h q s l = (div-lt_iff_lt-mul {k = h} {x = q} {y = w} s).1 l

position_is : (h q : ℕ) → q ≡ q / h * h + q % h
position_is h q = sym (div-add-mod q h) ∙ ap (λ a. a + q % h) (mul_comm h (q / h))

-- a key tells column and line
key_tells : (a b line c : ℕ) → a < 64 → c < 64 → (a + b) * 64 + a ≡ 64 * line + c → (a ≡ c) × (a + b ≡ line)
key_tells a b line c l m e = (omega (arith, l, m, e), omega (arith, l, m, e))

-- one place of a line
pub diagonal_place : (w h line c : ℕ) (scan : List ℕ) → 0 < h → w ≤ 32 → c < w → c ≤ line → line - c < h → IsBegun w h (64 * line + c) scan → IsBegun w h (64 * line + (c + 1)) (scan ++ (c * h + (line - c)) ∷ [])
diagonal_place w h line c scan some few l m r d =
    let p = c * h + (line - c) in
    let within : p < w * h = omega (arith, mul-add-lt c h (line - c) w l r, mul_comm w h) in
    let k : diagonal_key h p ≡ 64 * line + c = key_at h c (line - c) r ∙ omega (arith, m) in
    let only : (q : ℕ) → q < w * h → diagonal_key h q ≡ 64 * line + c → q ≡ p =
    λ q i e. let t = key_tells (q / h) (q % h) line c (omega (arith, column_below w h q some i, few)) (omega (arith, l, few)) e in
    position_is h q ∙ ap (λ a. a * h + q % h) t.0 ∙ ap (λ b. c * h + b) (rest (q / h) (q % h) line c t.0 t.1) in
    let at = at_place w h line c (omega (arith, l, few)) l m r in
    subst (λ n. IsBegun w h n (scan ++ p ∷ [])) (next (64 * line) c) (diagonal_push w h (64 * line + c) p scan d within k only at)
  where
    rest : (a b line c : ℕ) → a ≡ c → a + b ≡ line → b ≡ line - c
    rest a b line c e f = omega (arith, e, f)

    next : (n c : ℕ) → suc (n + c) ≡ n + (c + 1)
    next n c = omega arith

-- a column that has no place on a line
pub diagonal_gap : (w h line c : ℕ) (scan : List ℕ) → 0 < h → w ≤ 32 → c < w → (c ≤ line → line - c < h → ⊥) → IsBegun w h (64 * line + c) scan → IsBegun w h (64 * line + (c + 1)) scan
diagonal_gap w h line c scan some few l out d =
    diagonal_skip w h (64 * line + c) (64 * line + (c + 1)) scan d (omega arith)
    (λ q i m k. let t = key_tells (q / h) (q % h) line c (omega (arith, column_below w h q some i, few)) (omega (arith, l, few)) (between (diagonal_key h q) (64 * line) c m k) in
    out (omega (arith, t.0, t.1)) (below (q / h) (q % h) line c h t.0 t.1 (mod-lt q some)))
  where
    between : (a n c : ℕ) → n + c ≤ a → a < n + (c + 1) → a ≡ n + c
    between a n c l m = omega (arith, l, m)

    below : (a b line c h : ℕ) → a ≡ c → a + b ≡ line → b < h → line - c < h
    below a b line c h e f g = omega (arith, e, f, g)

-- the end of a line
pub diagonal_line : (w h line : ℕ) (scan : List ℕ) → 0 < h → w ≤ 32 → IsBegun w h (64 * line + w) scan → IsBegun w h (64 * (line + 1) + 0) scan
diagonal_line w h line scan some few d =
    diagonal_skip w h (64 * line + w) (64 * (line + 1) + 0) scan d (omega (arith, few))
    (λ q i m k. past (q / h) (q % h) line w few (column_below w h q some i) m k)
  where
    past : (a b line w : ℕ) → w ≤ 32 → a < w → 64 * line + w ≤ (a + b) * 64 + a → (a + b) * 64 + a < 64 * (line + 1) + 0 → ⊥
    past a b line w f l m k = omega (arith, f, l, m, k)

-- no key is beyond the last line
diagonal_all : (w h q : ℕ) → 0 < h → w ≤ 32 → q < w * h → diagonal_key h q < 64 * (w + h - 1) + 0
diagonal_all w h q some few i = last (q / h) (q % h) w h few (column_below w h q some i) (mod-lt q some)
  where
    last : (a b w h : ℕ) → w ≤ 32 → a < w → b < h → (a + b) * 64 + a < 64 * (w + h - 1) + 0
    last a b w h f l m = omega (arith, f, l, m)

-- after the last line all are there
pub diagonal_done : (w h : ℕ) (scan : List ℕ) → 0 < h → w ≤ 32 → IsBegun w h (64 * (w + h - 1) + 0) scan → IsDiagonal w h scan
diagonal_done w h scan some few d = record {
  whole = rw (once_of (w * h) h scan d.rises (λ p m. (d.inside p m).0), there_of (w * h) scan (λ p l. d.whole p l (diagonal_all w h p some few l))) refl;
  rises = d.rises;
  is = let e : 64 * (w + h - 1) + 0 ≡ 64 * (w + h - 1) = omega arith in d.is ∙ ap (by_keys w h) e;
}
