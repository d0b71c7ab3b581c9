-- In a context of valid distributions each is valid, and stays so as the context learns.
use Rattle.std.proofs.Common.{◌≡◌, ℕ, ◌<◌, List, Bool, true, false, length, ◌∙◌}
use Rattle.av1_model.specs.Cdf.{IsCdf}
use Rattle.av1_model.specs.Element.{Keeps}
use Rattle.av1_cdf.specs.Context.{AreCdfs}
use Rattle.av1_cdf.specs.Distribution.{Distribution, coded_by, learnt, HasSymbols}
use Rattle.av1_cdf.specs.Distribution.Distribution.{Adaptive, Fixed}
use Rattle.av1_cdf.proofs.Learning.{contents_long, cdfs_adapted}

valid : (numbers : List ℕ) (q : Distribution) (n : ℕ) → AreCdfs numbers → HasSymbols q n → IsCdf (coded_by numbers q)
valid numbers (Adaptive s) n v h = v.valid s h.0
valid numbers (Fixed cdf) n v h = h.0

long : (numbers : List ℕ) (q : Distribution) (n : ℕ) → AreCdfs numbers → HasSymbols q n → length (coded_by numbers q) ≡ n
long numbers (Adaptive s) n v h = contents_long numbers s v h.0 ∙ h.1
long numbers (Fixed cdf) n v h = h.1

stays : (learns : Bool) (numbers : List ℕ) (q : Distribution) (n s : ℕ) → AreCdfs numbers → HasSymbols q n → s < n → AreCdfs (learnt learns numbers q s)
stays true numbers (Adaptive p) n s v h l = cdfs_adapted numbers p s v h.0
stays false numbers (Adaptive p) n s v h l = v
stays learns numbers (Fixed cdf) n s v h l = v

pub keeps_cdfs : (learns : Bool) → Keeps HasSymbols coded_by (learnt learns) AreCdfs
keeps_cdfs learns = record { valid = valid; long = long; learnt = stays learns }
