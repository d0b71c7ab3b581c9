-- `part_mut` lends the numbers from one place up to another as a slice. The borrow checker shows no write-back clause for
-- a part of an array, so this proof walks the code by hand.
use mathlib.Core.Path.{◌≡◌, refl, sym, ap, ◌∙◌}
use Prim.Native.Nat.{ℕ, ◌+◌, ◌-◌, ◌*◌, ◌^◌, ◌<◌, ◌≤◌}
use native.Mathlib.Omega.{arith}
use mathlib.Core.List.{List, [], ◌∷◌, ◌++◌}
use lib.ListN.{length, take, drop as drop_list, take-append-drop, length-drop, length-append}
use lib.Seq.{drop-drop}
use seplogic.Ra.Ura.{Ura}
use mir.Syntax.{named, w64}
use mir.Val.{Val, vint}
use base.Logic.{SProp, ent, sep, ex, guard}
use base.Fml.{Lft, GName, Share, ftrue, flft}
use contract.Running.{tables}
use contract.Monad.{fact}
use types.Logic.{Logic, sem}
use types.Mut.{open_ref}
use types.SemTy.{cells}
use types.Kit.{Item, ‵, ◌⊛◌, raw, given, some, later, ◌$◌, ◌∵◌, !, qed, by, check, move, keep, drop, split, split3, join, learn, fsplit, fsplit3, fjoin, use1, use2, await, pick, rewrite, suffices, frame, updating, group, now, show, done}
use types.Part.{agg}
use types.Run.{stop, fld, addr, bin, lit, and_then, no_more, returns, enter}
use types.ByLocal.{alloc_all, pass_all, free_all, look_at, get, through, sets}
use denote.Array.{Array}
use denote.Builtin.{u16, usize}
use denote.Exit.{yes, no}
use denote.Follow.{follows}
use denote.FollowSlice.{lends_Elements}
use denote.Memory.{mem}
use denote.RattleType.{owns}
use denote.Plain.{uint_vals, uint_Tells}
use denote.Ref.{MutRef, mut_vals, mut_Tells}
use denote.Signature.{plain, mut_ref_to}
use denote.Slice.{MutSlice, Room, slice_val}
use denote.Steps.{nothing, heard}
use denote.Triple.Walked.{says, Stays, stay_dropped, walk_of, ends_at, Goes-dropped, Goes-spent_ref}
use borrow.Table.Elements.{at, at_mul, cut_app, join_app, length-take-le}
use Rattle.std.proofs.raw_atomic.Walks.{proved}
use Rattle.std.specs.List.{slice_range}
use Rattle.av1_cdf.specs.Context.{written_between}
use Rattle.av1_cdf.proofs.NumbersMemory.{size, start, Left, elements_out, elements_in}
use Rattle.av1_cdf.proofs.Parts.{written_is, written_length}
use Rattle.av1_cdf.specs.contracts.numbers.NumberArray.{the_row}
use Rattle.av1_cdf.specs.contracts.numbers.NumberArray.part_mut as f
use Rattle.av1_cdf.proofs.numbers.NumberArray.part_mut.Statement.{statement}
use Rattle.av1_cdf.proofs.numbers.NumberArray.part_mut.Code as code

module _ {M : Type 1} {𝓤 : Ura M} (𝓛 : Logic 𝓤) (κ : Lft) (q : Share) (b o : ℕ) (γ : GName) (d : the_row.Denot) (from to : ℕ) where
  open 𝓛 use {H, A}

  abbrev front : List ℕ
  front = take from d.xs

  abbrev mid : List ℕ
  mid = slice_range d.xs from to

  abbrev back : List ℕ
  back = drop_list to d.xs

  abbrev p : ℕ
  p = from * 2 + start o

  abbrev after : List ℕ → the_row.Denot
  after ws = record { xs = written_between d.xs from to ws }

  abbrev Rest : SProp 𝓤
  Rest = sep 𝓤 (sem 𝓛 (cells (mem u16) front b (start o))) (sep 𝓤 (sem 𝓛 (cells (mem u16) back b (at p (mem u16).size (length mid)))) (Left 𝓛 b o))

  abbrev Lent : GName → SProp 𝓤
  Lent δ = sep 𝓤 (sem 𝓛 ((MutSlice (named 0) κ u16).own_val (record { ref_ptr = (b, p); ghost_name = δ; now = mid }) (slice_val (b, p) (to - from) ∷ []))) (sep 𝓤 (A.lft κ q) (sem 𝓛 (follows the_row (Array u16 0) γ δ after)))

  -- and it is as long as its places say
  abbrev Known : GName → SProp 𝓤
  Known δ = guard 𝓤 (length mid ≡ to - from) (Lent δ)

  abbrev lent : ℕ → GName → Item 𝓤
  lent k δ = ‵ ((MutSlice (named 0) κ u16).own_val (record { ref_ptr = (b, p); ghost_name = δ; now = mid }) (slice_val (b, p) k ∷ [])) ⊛ ‵ (flft κ q) ⊛ ‵ (follows the_row (Array u16 0) γ δ after)

  module _ (low : from ≤ to) (high : to ≤ size) (long : length d.xs ≡ size) where
    front_is : length front ≡ from
    front_is = length-take-le from d.xs (omega arith)

    mid_is : length mid ≡ to - from
    mid_is = length-take-le (to - from) (drop_list from d.xs) (omega (arith, length-drop from d.xs))

    cut : d.xs ≡ front ++ (mid ++ back)
    cut =
        let rest : drop_list (to - from) (drop_list from d.xs) ≡ back = drop-drop (to - from) from d.xs ∙ ap (λ (k : ℕ). drop_list k d.xs) {x = from + (to - from)} (omega arith) in
        sym (take-append-drop from d.xs) ∙ ap (λ (l : List ℕ). front ++ l) (sym (take-append-drop (to - from) (drop_list from d.xs)) ∙ ap (λ (l : List ℕ). mid ++ l) rest)

    on : at (start o) (mem u16).size (length front) ≡ p
    on = at_mul (start o) (mem u16).size (length front) ∙ ap (λ (k : ℕ). k * 2 + start o) front_is

    put : (ws : List ℕ) → length ws ≡ length mid → ent 𝓤 (sep 𝓤 (sem 𝓛 (cells (mem u16) ws b p)) Rest) (sem 𝓛 ((mem the_row).own_at (after ws) b o))
    put ws e =
        let whole : length front + (length ws + length back) ≡ size = omega (arith, front_is, mid_is, length-drop to d.xs) in
        let inner = length-append ws back in
        let outer = length-append front (ws ++ back) in
        let same : written_between d.xs from to ws ≡ front ++ (ws ++ back) = written_is d.xs from to ws low (omega arith) (e ∙ mid_is) in
        let full : length (after ws).xs ≡ size = written_length d.xs from to ws ∙ long in
        qed 𝓛 (‵ (cells (mem u16) ws b p) ∷ ‵ (cells (mem u16) front b (start o)) ∷ ‵ (cells (mem u16) back b (at p (mem u16).size (length mid))) ∷ raw (Left 𝓛 b o) ∷ []) ∵
        rewrite ! 2 (λ (k : ℕ). ‵ (cells (mem u16) back b (at p (mem u16).size k))) (sym e) refl $ move ! (0 ∷ 2 ∷ []) $
        use2 𝓛 (‵ (cells (mem u16) (ws ++ back) b p)) (join_app 𝓛 (mem u16) ws back b p) $
        rewrite ! 0 (λ (k : ℕ). ‵ (cells (mem u16) (ws ++ back) b k)) (sym on) refl $ move ! (1 ∷ 0 ∷ []) $
        use2 𝓛 (‵ (cells (mem u16) (front ++ (ws ++ back)) b (start o))) (join_app 𝓛 (mem u16) front (ws ++ back) b (start o)) $
        rewrite ! 0 (λ (l : List ℕ). ‵ (cells (mem u16) l b (start o))) (sym same) refl $
        by ! (elements_in 𝓛 b o (after ws) full)

    room : Room u16 (length mid)
    room = (omega (arith, mid_is), omega (arith, mid_is))

  lends : from ≤ to → to ≤ size → (vs : List Val)
      → ent 𝓤 (sep 𝓤 (sem 𝓛 ((MutRef (named 0) κ the_row).own_val (record { ref_ptr = (b, o); ghost_name = γ; now = d }) vs)) (A.lft κ q)) (H.⇛ (ex 𝓤 Known))
  lends low high vs =
      qed 𝓛 (‵ ((MutRef (named 0) κ the_row).own_val (record { ref_ptr = (b, o); ghost_name = γ; now = d }) vs) ∷ ‵ (flft κ q) ∷ []) ∵
      updating ! $ fsplit3 ! $ drop ! $ open_ref ! tt (mem the_row) {b = b} {o = o} $
      use1 𝓛 (given (length d.xs ≡ size) (‵ (cells (mem u16) d.xs b (start o)) ⊛ raw (Left 𝓛 b o))) (elements_out 𝓛 b o d) $
      learn ! (λ long. split ! $
      rewrite ! 0 (λ (l : List ℕ). ‵ (cells (mem u16) l b (start o))) (cut low high long) refl $
      use1 𝓛 (‵ (cells (mem u16) front b (start o)) ⊛ ‵ (cells (mem u16) (mid ++ back) b (at (start o) (mem u16).size (length front)))) (cut_app 𝓛 (mem u16) front (mid ++ back) b (start o)) $ split ! $ move ! (1 ∷ []) $
      rewrite ! 0 (λ (k : ℕ). ‵ (cells (mem u16) (mid ++ back) b k)) (on low high long) refl $
      use1 𝓛 (‵ (cells (mem u16) mid b p) ⊛ ‵ (cells (mem u16) back b (at p (mem u16).size (length mid)))) (cut_app 𝓛 (mem u16) mid back b p) $ split ! $
      move ! (2 ∷ 1 ∷ 3 ∷ []) $ group ! 3 $ move ! (2 ∷ 3 ∷ 4 ∷ 1 ∷ 0 ∷ []) $ group ! 5 $
      use1 𝓛 (later (some (lent (length mid))))
      (lends_Elements 𝓛 the_row u16 after (named 0) κ q b o b p γ mid (room low high long) Rest (put low high long) (the_row.coded.code d) (the_row.coded.code d)) $
      await ! tt $ pick ! (λ δ. rewrite ! 0 (λ (k : ℕ). lent k δ) (mid_is low high long) refl $ now ! $ show ! Known δ $ check ! (mid_is low high long) $ done !))

abbrev stayed : Stays f.ended.signature.params f.ended.kept
stayed = (stay_dropped (mut_ref_to (0 ∷ []) tt (plain (λ _. the_row))) no, (stay_dropped (plain (λ _. usize)) yes, (stay_dropped (plain (λ _. usize)) yes, tt)))

pub part_mut_spec : {M : Type 1} → statement M
part_mut_spec 𝓤 𝓛 𝓜 𝓡 wired =
    let c = f.clauses 𝓛 𝓜.mem 𝓡.returns in let W = walk_of 𝓛 f.ended stayed c in let 𝓣 = tables 𝓤 𝓛.H 𝓜 𝓡 𝓡.env in
    let goes = Goes-dropped 𝓛 1 (plain (λ _. usize)) yes (λ κs x w. refl) in
    proved 𝓛 f.ended stayed c 𝓜 𝓡 (Goes-spent_ref 𝓛 1 (0 ∷ []) tt (plain (λ _. the_row)), (goes, (goes, tt)))
    f.Key.name code.function (code.unfolded 𝓤 𝓛.H 𝓜 𝓡 wired)
    (λ κs. (mut_vals, (uint_vals w64, (uint_vals w64, tt)))) (λ κs. (mut_Tells (named 0) κs.0 the_row, (uint_Tells w64, (uint_Tells w64, tt)))) (λ κs qs bounds a n are.
    let d = a.0.now in let b = a.0.ref_ptr.0 in let o = a.0.ref_ptr.1 in let γ = a.0.ghost_name in
    let from = a.1.0 in let to = a.1.1.0 in
    let y : W.Ghost = ((κs, qs, bounds, a, (mut_vals a.0, (uint_vals w64 from, (uint_vals w64 to, tt)))), tt) in
    let small : to < 2 ^ 64 = are.1.1.0.1 in
    let fits : from < 2 ^ 64 = are.1.0.1 in
    let few : to - from < 2 ^ 64 = omega arith in
    qed 𝓛 (((‵ (flft κs.0 qs.0) ⊛ ‵ ftrue) ⊛ ‵ (owns (MutRef (named 0) κs.0 the_row ∷ usize ∷ usize ∷ []) a (mut_vals a.0, (vint w64 from ∷ [], (vint w64 to ∷ [], tt))))) ∷ (raw (fact 𝓤 (from ≤ to)) ⊛ raw (fact 𝓤 (to ≤ size))) ∷ []) ∵
    move ! (1 ∷ []) $ split ! $ heard ! _ (λ low. heard ! _ (λ high. split ! $
    let bytes : from * 2 < 2 ^ 64 = omega arith in
    enter ! _ _ _ _ _ $
    alloc_all ! (λ l. pass_all ! refl ((tt, tt), ((tt, record { fits = fits }), ((tt, record { fits = small }), tt))) $
    sets ! (bin ! (get ! refl) (lit ! tt) (record { fits = bytes })) refl (tt, record { fits = bytes }) $
    sets ! (addr ! (through ! refl (fld ! refl (stop !)))) refl (tt, tt) $
    sets ! (bin ! (get ! refl) (get ! refl) tt) refl (tt, tt) $
    sets ! (bin ! (get ! refl) (get ! refl) low) refl (tt, record { fits = few }) $
    sets ! (addr ! (through ! refl (stop !))) refl (tt, tt) $
    sets ! (agg ! (and_then ! (get ! refl) (and_then ! (get ! refl) (no_more !)))) refl (tt, (tt, (record { fits = few }, tt))) $
    split ! $ move ! (2 ∷ []) $ fsplit ! $ move ! (0 ∷ 2 ∷ []) $
    use2 𝓛 (later (some (λ (δ : GName). given (length (slice_range d.xs from to) ≡ to - from) (lent 𝓛 κs.0 qs.0 b o γ d from to (to - from) δ)))) (lends 𝓛 κs.0 qs.0 b o γ d from to low high (mut_vals a.0)) $
    await ! tt $ pick ! (λ δ. learn ! (λ count.
    returns ! (look_at ! 0 refl) $ free_all ! refl $ keep ! (0 ∷ 2 ∷ []) $ split3 ! $
    suffices ! _ (ends_at 𝓛 f.ended stayed c y (slice_val (b, p 𝓛 κs.0 qs.0 b o γ d from to) (to - from)) (record { ref_ptr = (b, p 𝓛 κs.0 qs.0 b o γ d from to); ghost_name = δ; now = slice_range d.xs from to }) (tt, (tt, (tt, tt))) (tt, (tt, (tt, tt)))) $
    nothing ! $ nothing ! $ fjoin ! $ nothing ! $ fjoin ! $ nothing ! $ fjoin ! $ join ! $ move ! (1 ∷ 3 ∷ []) $ join ! $ join ! $ frame ! $ says ! (refl, omega (arith, count)) $ done !))))))
