-- What a call that codes no palette writes.
use Rattle.std.proofs.Common.{◌≡◌, [], ◌∷◌, Bool, true, false, if◌then◌else◌, Result, refl, subst}
use Rattle.av1_cdf.specs.Distribution.{Distribution}
use Rattle.av1_cdf.specs.Distribution.Distribution.{Adaptive}
use Rattle.av1_cdf.specs.Layout.{Slot}
use Rattle.av1_model.specs.Comes.{Standing, Wrote, Writes, Begins}
use Rattle.av1_model.specs.Element.{after}
use Rattle.av1_model.specs.Syntax.{Leads}
use Rattle.av1_model.proofs.ComesLaws.{begins_first, writes_first, wrote_then}
use Rattle.av1_syntax.specs.Calls.{Context, coded_in, learnt_in}
use Rattle.av1_syntax.specs.Palette.{off_where}

off_leads : (asked : Bool) (q : Distribution) → Leads (off_where asked q).tree (if asked then 0 ∷ [] else []) false
off_leads true q = refl
off_leads false q = refl

-- by other names of what is asked, and of its slot
pub off_as : {U E : Type 0} (r : Result U E) (asked b : Bool) (p q : Slot) (old new : Standing Context) → asked ≡ b → p ≡ q → Wrote coded_in learnt_in r (off_where asked (Adaptive p)).tree false old new →
    Wrote coded_in learnt_in r (off_where b (Adaptive q)).tree false old new
off_as r asked b p q old new e f h =
    subst (λ (s : Slot). Wrote coded_in learnt_in r (off_where b (Adaptive s)).tree false old new) f (subst (λ (b : Bool). Wrote coded_in learnt_in r (off_where b (Adaptive p)).tree false old new) e h)

-- a refusal of the first
pub palette_begun : (luma chroma : Bool) (p q : Distribution) (old new : Standing Context) → Begins coded_in learnt_in (off_where luma p).tree false old new →
    Begins coded_in learnt_in (after (off_where luma p) (λ y. off_where chroma q) (λ on. on)).tree false old new
palette_begun luma chroma p q old new h =
    begins_first coded_in learnt_in (off_where luma p).tree (λ y. (off_where chroma q).tree) false false (if chroma then 0 ∷ [] else []) old new (off_leads chroma q) h

-- the second after the first
pub palette_wrote : {U E : Type 0} (r : Result U E) (luma chroma : Bool) (p q : Distribution) (old mid new : Standing Context) → Writes coded_in learnt_in (off_where luma p).tree false old mid →
    Wrote coded_in learnt_in r (off_where chroma q).tree false mid new → Wrote coded_in learnt_in r (after (off_where luma p) (λ y. off_where chroma q) (λ on. on)).tree false old new
palette_wrote r luma chroma p q old mid new h w =
    wrote_then coded_in learnt_in r (after (off_where luma p) (λ y. off_where chroma q) (λ on. on)).tree (off_where chroma q).tree false old mid new (writes_first coded_in learnt_in (off_where luma p).tree (λ y. (off_where chroma q).tree) false old mid h) w
