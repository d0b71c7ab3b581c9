-- Half way along a line: what is left to do comes to what there was to do.
use Rattle.std.proofs.Common.{◌≡◌, ℕ, ◌+◌, ◌*◌, ◌%◌, ◌<◌, ◌≤◌, List, ◌∷◌, Bool, true, false, ◌||◌, length, map, refl, sym, ap, ◌∙◌, subst, arith}
use Rattle.std.specs.List.{list_any}
use Rattle.av1_blocks.specs.declared.block.Block.{Block}
use Rattle.av1_mvref.specs.declared.candidate.CandidateMV.{CandidateMV}
use Rattle.av1_mvref.specs.declared.candidate.Wanted.{Wanted}
use Rattle.av1_mvref.specs.Neighbours.{Edge, shown, at_distance, steps, line, done_by, done_after, neighbour}
use Rattle.av1_mvref.specs.Candidates.{gives, gives_new}
use Rattle.av1_mvref.specs.Noted.{took, took_all, heaviest}
use Rattle.av1_mvref.proofs.Lines.{rest, rest-step, rest-end}
use Rattle.av1_mvref.proofs.Noting.{length-took}

pub record IsPartWay (w : Wanted) (e : Edge) (d : ℕ) (stack_0 : List CandidateMV) (done_0 : ℕ) (new_0 : Bool) (stack : List CandidateMV) (found : Bool) (new : Bool) (done i : ℕ) : Type 0 where
  pub items : took_all w stack (map (neighbour e d) (rest e d i)) ≡ took_all w stack_0 (map (neighbour e d) (line e d))
  pub matched : (found || list_any (gives w) (map (neighbour e d) (rest e d i))) ≡ list_any (gives w) (map (neighbour e d) (line e d))
  pub news : (new || list_any (gives_new w) (map (neighbour e d) (rest e d i))) ≡ (new_0 || list_any (gives_new w) (map (neighbour e d) (line e d)))
  pub lines : done_after e d done (rest e d i) ≡ done_after e d done_0 (line e d)
  pub few : length stack ≤ 8
  pub light : heaviest stack ≤ heaviest stack_0 + 448 * i
  pub even : 1 < d → i % 2 ≡ 0
  pub short : i ≤ 47

or_assoc : (a b c : Bool) → ((a || b) || c) ≡ (a || (b || c))
or_assoc true b c = refl
or_assoc false b c = refl

pub part_way-begin : (w : Wanted) (e : Edge) (d : ℕ) (stack : List CandidateMV) (new : Bool) (done : ℕ) → length stack ≤ 8 → IsPartWay w e d stack done new stack false new done 0
part_way-begin w e d stack new done h = record { items = refl; matched = refl; news = refl; lines = refl; few = h; light = omega arith; even = λ k. omega arith; short = omega arith }

or_false : (a : Bool) → (a || false) ≡ a
or_false true = refl
or_false false = refl

pub record IsDone (w : Wanted) (e : Edge) (d : ℕ) (stack_0 : List CandidateMV) (done_0 : ℕ) (new_0 : Bool) (stack : List CandidateMV) (found : Bool) (new : Bool) (done : ℕ) : Type 0 where
  pub items : stack ≡ took_all w stack_0 (map (neighbour e d) (line e d))
  pub matched : found ≡ list_any (gives w) (map (neighbour e d) (line e d))
  pub news : new ≡ (new_0 || list_any (gives_new w) (map (neighbour e d) (line e d)))
  pub lines : done ≡ done_after e d done_0 (line e d)

pub part_way-end : (w : Wanted) (e : Edge) (d : ℕ) (stack_0 : List CandidateMV) (done_0 : ℕ) (new_0 : Bool) (stack : List CandidateMV) (found : Bool) (new : Bool) (done i : ℕ) →
    IsPartWay w e d stack_0 done_0 new_0 stack found new done i → shown e ≤ i → IsDone w e d stack_0 done_0 new_0 stack found new done
part_way-end w e d stack_0 done_0 new_0 stack found new done i h l =
    let s = rest-end e d i l in
    record {
      items = ap (λ bs. took_all w stack (map (neighbour e d) bs)) (sym s) ∙ h.items;
      matched = sym (or_false found) ∙ ap (λ bs. found || list_any (gives w) (map (neighbour e d) bs)) (sym s) ∙ h.matched;
      news = sym (or_false new) ∙ ap (λ bs. new || list_any (gives_new w) (map (neighbour e d) bs)) (sym s) ∙ h.news;
      lines = ap (λ bs. done_after e d done bs) (sym s) ∙ h.lines;
    }

-- the same with what the code has in hand
pub part_way-next : (w : Wanted) (e : Edge) (d : ℕ) (stack_0 : List CandidateMV) (done_0 : ℕ) (new_0 : Bool) (stack : List CandidateMV) (found : Bool) (new : Bool) (done i : ℕ) (b : Block) (stack_1 : List CandidateMV) (found_1 : Bool) (new_1 : Bool) (done_1 n : ℕ) →
    b ≡ at_distance e d i → stack_1 ≡ took w stack (neighbour e d b) → found_1 ≡ (found || gives w (neighbour e d b)) → new_1 ≡ (new || gives_new w (neighbour e d b)) → done_1 ≡ done_by e d done b → n ≡ steps e d b →
    IsPartWay w e d stack_0 done_0 new_0 stack found new done i →
    ((j : ℕ) → j < shown e → 1 ≤ steps e d (at_distance e d j)) → i < shown e → (1 < d → n % 2 ≡ 0) → heaviest stack_1 ≤ heaviest stack + 448 → n ≤ 32 →
    IsPartWay w e d stack_0 done_0 new_0 stack_1 found_1 new_1 done_1 (i + n)
part_way-next w e d stack_0 done_0 new_0 stack found new done i b stack_1 found_1 new_1 done_1 n eb es ef ew en ek h p l even light most =
    let s = rest-step e d i p l ∙ ap (λ a. a ∷ rest e d (i + steps e d a)) (sym eb) ∙ ap (λ m. b ∷ rest e d (i + m)) (sym ek) in
    let one = p i l in
    let far : 1 ≤ n = subst (λ m. 1 ≤ m) (ap (steps e d) (sym eb) ∙ sym ek) one in
    record {
      items = ap (λ xs. took_all w xs (map (neighbour e d) (rest e d (i + n)))) es ∙ ap (λ bs. took_all w stack (map (neighbour e d) bs)) (sym s) ∙ h.items;
      matched = ap (λ v. v || list_any (gives w) (map (neighbour e d) (rest e d (i + n)))) ef ∙ or_assoc found (gives w (neighbour e d b)) _ ∙ ap (λ bs. found || list_any (gives w) (map (neighbour e d) bs)) (sym s) ∙ h.matched;
      news = ap (λ v. v || list_any (gives_new w) (map (neighbour e d) (rest e d (i + n)))) ew ∙ or_assoc new (gives_new w (neighbour e d b)) _ ∙ ap (λ bs. new || list_any (gives_new w) (map (neighbour e d) bs)) (sym s) ∙ h.news;
      lines = ap (λ m. done_after e d m (rest e d (i + n))) en ∙ ap (λ bs. done_after e d done bs) (sym s) ∙ h.lines;
      few = subst (λ xs. length xs ≤ 8) (sym es) (length-took w (neighbour e d b) stack h.few);
      light = let before = h.light in omega arith;
      even = λ k. let a = even k in let c = h.even k in omega arith;
      short = omega arith;
    }
