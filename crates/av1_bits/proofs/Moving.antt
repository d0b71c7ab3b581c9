-- What one call more moves.
use Rattle.std.proofs.Common.{◌≡◌, ℕ, ◌+◌, ◌≤◌, List, [], ◌++◌, length, take, drop, Option, Some, None, refl, sym, ◌∙◌, ap, append_assoc, arith, length-drop, length-take, length-append}
use Rattle.std.proofs.lemmas.List.{drop-drop, take-append-drop, append-nil}
use Rattle.std.proofs.Math.Seq.{take-add, drop-nil}
use Rattle.av1_bits.specs.Outside.{Rose, Still, Moves, Takes, appended}

appended-appended : (held : Option (List ℕ)) (xs ys : List ℕ) → appended (appended held xs) ys ≡ appended held (xs ++ ys)
appended-appended None xs ys = refl
appended-appended (Some s) xs ys = ap Some (append_assoc s xs ys)

-- a sink that took the first k bytes takes n of the rest
pub sent_more : (old mid new : Option (List ℕ)) (bytes : List ℕ) (k n : ℕ) → mid ≡ appended old (take k bytes) → new ≡ appended mid (take n (drop k bytes)) → new ≡ appended old (take (k + n) bytes)
sent_more old mid new bytes k n so_far now =
    now ∙ ap (λ h. appended h (take n (drop k bytes))) so_far ∙ appended-appended old (take k bytes) (take n (drop k bytes)) ∙ ap (appended old) (sym (take-add k n bytes))

pub grown_size : (items longer buf : List ℕ) (n : ℕ) → longer ≡ items ++ take n buf → n ≤ length buf → length longer ≡ length items + n
grown_size items longer buf n grown fits = ap length grown ∙ simp length-append (omega (arith, length-take {A = ℕ}, fits))

module _ (old mid new : Option (List ℕ)) (buf : List ℕ) (n : ℕ) (moved : (bytes : List ℕ) → mid ≡ Some bytes → Moves n bytes buf new) where
  -- a source that gave k bytes gives n of the rest
  pub takes_more : (k : ℕ) → Takes k old mid → (mid ≡ None → new ≡ None) → Takes (k + n) old new
  takes_more k so_far untold = record {
    told = λ bytes is.
        let before : (k ≤ length bytes) × (mid ≡ Some (drop k bytes)) = so_far.told bytes is in
        let now : Moves n (drop k bytes) buf new = moved (drop k bytes) before.1 in
        (omega (arith, before.0, now.there, length-drop k bytes), now.rest ∙ ap Some (drop-drop n k bytes));
    untold = λ is. untold (so_far.untold is);
  }

  -- what was read is the front of what was left
  pub front_more : (items longer : List ℕ) → longer ≡ items ++ take n buf → length longer ≡ length items + n → Takes (length items) old mid
      → (all : List ℕ) → old ≡ Some all → items ≡ take (length items) all → longer ≡ take (length longer) all
  front_more items longer grown size so_far all is front =
      let now : Moves n (drop (length items) all) buf new = moved (drop (length items) all) (so_far.told all is).1 in
      grown ∙ ap (λ (l : List ℕ). l ++ take n buf) front ∙ ap (λ (l : List ℕ). take (length items) all ++ l) now.front ∙ sym (take-add (length items) n all) ∙ ap (λ k. take k all) (sym size)

  -- at the end it is all
  pub all_read : (items : List ℕ) → Takes (length items) old mid → (all : List ℕ) → old ≡ Some all → items ≡ take (length items) all → (drop (length items) all ≡ []) → n ≡ 0 → (items ≡ all) × (new ≡ Some [])
  all_read items so_far all is front end none =
      let now : Moves n (drop (length items) all) buf new = moved (drop (length items) all) (so_far.told all is).1 in
      let whole : all ≡ take (length items) all ++ [] = sym (take-append-drop (length items) all) ∙ ap (λ (l : List ℕ). take (length items) all ++ l) end in (
        front ∙ sym (whole ∙ append-nil (take (length items) all)),
        now.rest ∙ ap (λ (l : List ℕ). Some (drop n l)) end ∙ ap Some (drop-nil n),
      )

-- a count can't both have risen and be still
pub rose-still : (old new : ℕ) → Rose old new → Still old new → ⊥
rose-still old new rose still = omega (arith, rose.no_less, rose.more, still.same, still.below)
