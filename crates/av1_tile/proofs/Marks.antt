-- Marks and costs of trials: what moves them, and what leaves them as they are.
use Rattle.std.proofs.Common.{◌≡◌, ◌⊎◌, inl, inr, ◌+◌, ◌-◌, ◌/◌, ◌<◌, ◌≤◌, IsTrue, List, [], ◌∷◌, ◌++◌, length, set, take, get_or, refl, sym, ◌∙◌, ap, subst, arith, append_assoc}
use Rattle.std.proofs.lemmas.Bool.Decides.{nat_tests}
use Rattle.std.proofs.lemmas.List.{take_more, take_all}
use Rattle.av1_cdf.specs.Context.{AreCdfs}
use Rattle.av1_cdf.specs.Log.{IsReached as HasSaves}
use Rattle.av1_ec.specs.Checkpoint.{reach}
use Rattle.av1_ec.specs.Rate.{tell_frac_at}
use Rattle.av1_ec.specs.declared.known.Known.{Ghosts}
use Rattle.av1_geometry.specs.declared.block_offset.BlockOffset.{BlockOffset}
use Rattle.av1_model.specs.Reading.{Coding}
use Rattle.av1_model.specs.Position.{Position}
use Rattle.av1_tile.specs.declared.report.TrialCost.{TrialCost}
use Rattle.av1_step.specs.declared.tile.TileState.{TileState}
use Rattle.av1_step.specs.declared.trial.TrialMark.{TrialMark}
use Rattle.av1_step.specs.Kept.{IsKept}
use Rattle.av1_step.specs.State.{tile_of, log_of}
use Rattle.av1_step.specs.Tile.{Tile}
use Rattle.av1_tile.specs.Trials.{Trial, with_costs, same_superblock}
use Rattle.av1_tile.specs.Coder.{HasCoded, all_costs, begun_of, unknown_cost, MarksAre}
use Rattle.av1_step.specs.Mark.{back_to, IsOfTile}
use Rattle.av1_tile.specs.Marks.{IsBefore, IsBeforeAll, CanGoBack, AreMarks, StandsStill, AllStandStill}

-- costs that join those of the innermost trial, or of the script, come last
pub all_costs-with : (at : Coding Tile) (more : List TrialCost) (ts : List Trial) (costs : List TrialCost) → let p = with_costs more at ts costs in all_costs p.trials p.costs ≡ all_costs ts costs ++ more
all_costs-with at more [] costs = refl
all_costs-with at more (t ∷ ts) costs = sym (append_assoc (all_costs ts costs) (unknown_cost t ∷ t.inner) more)

-- and leave the places of costs that are not known yet
pub begun-with : (at : Coding Tile) (more : List TrialCost) (ts : List Trial) (costs : List TrialCost) → let p = with_costs more at ts costs in begun_of p.trials p.costs ≡ begun_of ts costs
begun-with at more [] costs = refl
begun-with at more (t ∷ ts) costs = refl

-- a cost that becomes known
pub set-among : (xs ys : List TrialCost) (old new : TrialCost) → set (xs ++ (old ∷ ys)) (length xs) new ≡ xs ++ (new ∷ ys)
set-among [] ys old new = refl
set-among (x ∷ xs) ys old new = ap (λ (l : List TrialCost). x ∷ l) (set-among xs ys old new)

-- the last of a list, and what stands before it
pub last_one : {A : Type 0} (xs ys : List A) (x y : A) → xs ++ x ∷ [] ≡ ys ++ y ∷ [] → (xs ≡ ys) × (x ≡ y)
last_one [] [] x y h = (refl, cc h)
last_one [] (b ∷ []) x y h = cc
last_one [] (b ∷ c ∷ ys) x y h = cc
last_one (a ∷ []) [] x y h = cc
last_one (a ∷ c ∷ xs) [] x y h = cc
last_one (a ∷ xs) (b ∷ ys) x y h =
    let e : a ≡ b = cc h in
    let f : xs ++ x ∷ [] ≡ ys ++ y ∷ [] = cc h in
    let r = last_one xs ys x y f in
    (cc (e, r.0), r.1)

pub none_last : {A : Type 0} (xs : List A) (x : A) → xs ++ x ∷ [] ≡ [] → ⊥
none_last [] x h = cc h
none_last (a ∷ xs) x h = cc h

pub ends_in : {A : Type 0} (xs : List A) (m : A) → 0 < length xs → m ≡ get_or xs (length xs - 1) m → (outer : List A) × (xs ≡ outer ++ m ∷ [])
ends_in xs m h e = (
  take (length xs - 1) xs,
  sym (take_all (length xs - 1 + 1) xs (omega (arith, h))) ∙ take_more xs (length xs - 1) m (omega (arith, h)) ∙ ap (λ i. take (length xs - 1) xs ++ i ∷ []) (sym e),
)

-- a list is empty or has a last
pub none_or_last : {A : Type 0} (xs : List A) → (xs ≡ []) ⊎ ((outer : List A) × (x : A) × (xs ≡ outer ++ x ∷ []))
none_or_last [] = inl refl
none_or_last {A} (x ∷ xs) =
    elim (none_or_last xs) [
      | inl e ↦ inr ([], x, ap (λ (l : List A). x ∷ l) e)
      | inr r ↦ inr (x ∷ r.0, r.1, ap (λ (l : List A). x ∷ l) r.2)
    ]

-- places in one superblock
pub same_of : (a b : BlockOffset) → IsTrue (same_superblock a b) → (a.x / 16 ≡ b.x / 16) × (a.y / 16 ≡ b.y / 16)
same_of a b h = (grind (arith, nat_tests, h), grind (arith, nat_tests, h))

same_with : (a b : BlockOffset) → (a.x / 16 ≡ b.x / 16) × (a.y / 16 ≡ b.y / 16) → IsTrue (same_superblock a b)
same_with a b h = grind (arith, nat_tests, h)

pub same_self : (a : BlockOffset) → IsTrue (same_superblock a a)
same_self a = same_with a a (refl, refl)

pub same_trans : (a b c : BlockOffset) → IsTrue (same_superblock a b) → IsTrue (same_superblock b c) → IsTrue (same_superblock a c)
same_trans a b c h g = let x = same_of a b h in let y = same_of b c g in same_with a c (x.0 ∙ y.0, x.1 ∙ y.1)

pub same_back : (a b : BlockOffset) → IsTrue (same_superblock a b) → IsTrue (same_superblock b a)
same_back a b h = let x = same_of a b h in same_with b a (sym x.0, sym x.1)

-- marks that come before one
abbrev pub AllBefore : List TrialMark → TrialMark → Type 0
AllBefore [] last = Unit {0}
AllBefore (m ∷ marks) last = IsBefore m last × AllBefore marks last

pub before_self : (m : TrialMark) → IsBefore m m
before_self m = record { near = same_self m.place.0; told = omega arith; stored = omega arith; saves = (omega arith, omega arith) }

-- also the one itself
pub before_with : (outer : List TrialMark) (m : TrialMark) → AllBefore outer m → AllBefore (outer ++ m ∷ []) m
before_with [] m a = (before_self m, tt)
before_with (o ∷ outer) m (one, rest) = (one, before_with outer m rest)

before_last : (o : TrialMark) (outer : List TrialMark) (m : TrialMark) → IsBeforeAll o (outer ++ m ∷ []) → IsBeforeAll o outer × IsBefore o m
before_last o [] m (one, rest) = (tt, one)
before_last o (n ∷ outer) m (one, rest) = let r = before_last o outer m rest in ((one, r.0), r.1)

before_more : (o : TrialMark) (outer : List TrialMark) (m : TrialMark) → IsBeforeAll o outer → IsBefore o m → IsBeforeAll o (outer ++ m ∷ [])
before_more o [] m a b = (b, tt)
before_more o (n ∷ outer) m (one, rest) b = (one, before_more o outer m rest b)

module _ {W : Type 0} (writer : Ghosts W) where
  -- marks without the last, and the last
  pub marks_split : (w : W) (s : TileState) (outer : List TrialMark) (m : TrialMark) → AreMarks writer w s (outer ++ m ∷ []) → AreMarks writer w s outer × CanGoBack writer w (log_of s) (tile_of s) m × AllBefore outer m
  marks_split w s [] m (k, all, rest) = (tt, k, tt)
  marks_split w s (o ∷ outer) m (k, all, rest) =
      let r = marks_split w s outer m rest in
      let b = before_last o outer m all in
      ((k, b.0, r.0), r.1, (b.1, r.2))

  pub marks_joined : (w : W) (s : TileState) (outer : List TrialMark) (m : TrialMark) → AreMarks writer w s outer → CanGoBack writer w (log_of s) (tile_of s) m → AllBefore outer m → AreMarks writer w s (outer ++ m ∷ [])
  marks_joined w s [] m a k b = (k, tt, tt)
  marks_joined w s (o ∷ outer) m (j, all, rest) k (one, more) = (j, before_more o outer m all one, marks_joined w s outer m rest k more)

  -- marks that come before one stay where each of them does
  pub marks_carried : (w later : W) (old new : TileState) (last : TrialMark)
      → ((m : TrialMark) → CanGoBack writer w (log_of old) (tile_of old) m → IsBefore m last → CanGoBack writer later (log_of new) (tile_of new) m × StandsStill writer w later old new m)
      → (marks : List TrialMark) → AreMarks writer w old marks → AllBefore marks last → AreMarks writer later new marks × AllStandStill writer w later old new marks
  marks_carried w later old new last each [] a b = (tt, tt)
  marks_carried w later old new last each (m ∷ marks) (k, all, rest) (one, more) =
      let x = each m k one in
      let r = marks_carried w later old new last each marks rest more in
      ((x.0, all, r.0), (x.1, r.1))

  -- a mark stays where writer, log and tile still have what it counts and give what they gave
  pub mark_carried : (w later : W) (old new : TileState) (m : TrialMark) → CanGoBack writer w (log_of old) (tile_of old) m → writer.IsReached later m.writer → writer.position_at later m.writer ≡ writer.position_at w m.writer
      → HasSaves (log_of new) m.context.fc → IsOfTile m (tile_of new) → back_to m (log_of new) (tile_of new) ≡ back_to m (log_of old) (tile_of old)
      → m.tell ≤ tell_frac_at (writer.position later) → reach m.writer ≤ writer.stored later → CanGoBack writer later (log_of new) (tile_of new) m × StandsStill writer w later old new m
  mark_carried w later old new m k reached position saves of_tile back told stored = (
    record {
      reached = reached;
      saves = saves;
      of_tile = of_tile;
      kept = subst IsKept (sym back) k.kept;
      cdfs = subst (λ (t : Tile). AreCdfs t.numbers) (sym back) k.cdfs;
      told = subst (λ (p : Position). m.tell ≤ tell_frac_at p) (sym position) k.told;
      told_by_now = told;
      stored = stored;
    },
    record { position = position; tile = back },
  )

  -- where nothing moves, marks stand still
  pub all_still : (w : W) (s : TileState) (marks : List TrialMark) → AllStandStill writer w w s s marks
  all_still w s [] = tt
  all_still w s (m ∷ marks) = (record { position = refl; tile = refl }, all_still w s marks)

  pub still_split : (w later : W) (old new : TileState) (outer : List TrialMark) (m : TrialMark) → AllStandStill writer w later old new (outer ++ m ∷ []) → AllStandStill writer w later old new outer × StandsStill writer w later old new m
  still_split w later old new [] m (one, rest) = (tt, one)
  still_split w later old new (o ∷ outer) m (one, rest) = let r = still_split w later old new outer m rest in ((one, r.0), r.1)

  -- marks that stand still keep the beginnings of the same trials
  pub trials_still : (start : Position) (w later : W) (old new : TileState) (marks : List TrialMark) (ts : List Trial) → AllStandStill writer w later old new marks → MarksAre writer start w old marks ts → MarksAre writer start later new marks ts
  trials_still start w later old new marks [] still a = a
  trials_still start w later old new marks (t ∷ ts) still (outer, m, is, k, rest) =
      let r = still_split w later old new outer m (subst (λ (l : List TrialMark). AllStandStill writer w later old new l) is still) in (
        outer,
        m,
        is,
        record {
          place_is = k.place_is;
          told = k.told;
          coded = subst (λ (q : Position). HasCoded start q t.start.interval) (sym r.1.position) k.coded;
          back = r.1.tile ∙ k.back;
          sound = k.sound;
        },
        trials_still start w later old new outer ts r.0 rest,
      )

  -- costs change no mark
  pub marks_with : (start : Position) (w : W) (tile : TileState) (marks : List TrialMark) (at : Coding Tile) (more : List TrialCost) (ts : List Trial) (costs : List TrialCost)
      → MarksAre writer start w tile marks ts → MarksAre writer start w tile marks (with_costs more at ts costs).trials
  marks_with start w tile marks at more [] costs a = a
  marks_with start w tile marks at more (t ∷ ts) costs (outer, m, is, k, rest) = (outer, m, is, record { place_is = k.place_is; told = k.told; coded = k.coded; back = k.back; sound = k.sound }, rest)
