-- What is asked for where a unit is read, and where one is made.
use Rattle.std.proofs.Common.{◌≡◌, ◌^◌, ◌<◌, ◌≤◌, ◌⊎◌, inl, inr, List, ℕ, Option, Some, None, length, subst, sym, refl, ◌∙◌, arith}
use Rattle.std.proofs.lemmas.Bool.{lt-ltb, le-ltb}
use Rattle.av1_bits.specs.Outside.{Rose, Still}
use Rattle.av1_tile.specs.declared.error.UnitError.{UnitError}
use Rattle.av1_unit.specs.Findings.{first_refusal}
use Rattle.av1_program.specs.Run.{AsksForInput, Concerns, Explains, IsAnswer, IsAnswerTo, IsRefusal, IsValid, IsVerdict, Reads}
use Rattle.av1_program.specs.Shape.{Shape, Fits, NoReading, Unfit, made, made_unit, shape}
use Rattle.av1_program.specs.declared.status.Status.{Status}
use Rattle.av1_program.specs.declared.status.Status.TheVariants.{Sent, Usage, SourceFault, TooLarge, BadText, BadShape, Refused, BadScript, TooLong, SinkFault, OutOfMemory}
use Rattle.av1_program.specs.declared.words.Word.{Word}
use Rattle.av1_program.specs.declared.words.Word.TheVariants.{Write, Raw, Make}

-- what holds of the input is what is asked for
pub reads_concern : (word : Word) (before after : Option (List ℕ)) (P : Shape → Type 0) → AsksForInput (Some word) → Reads before after (λ input. P (shape input)) → Concerns (Some word) before after P
reads_concern Write before after P asks r = r
reads_concern Raw before after P asks r = r
reads_concern (Make n) before after P asks r = absurd asks

-- a refusal of the input explains why there is no text
pub reads_explain : (status : Status) (word : Word) (before after : Option (List ℕ)) (old new : ℕ) → AsksForInput (Some word) → Reads before after (λ input. IsRefusal status (shape input))
    → Explains status (Some word) before after old new
reads_explain Sent word before after old new asks r = absurd r.is
reads_explain Usage word before after old new asks r = absurd r.is
reads_explain SourceFault word before after old new asks r = absurd r.is
reads_explain TooLarge word before after old new asks r = absurd r.is
reads_explain BadText word before after old new asks r = reads_concern word before after (IsRefusal BadText) asks r
reads_explain (BadShape path) word before after old new asks r = reads_concern word before after (IsRefusal (BadShape path)) asks r
reads_explain (Refused place rule) word before after old new asks r = reads_concern word before after (IsRefusal (Refused place rule)) asks r
reads_explain (BadScript tile item) word before after old new asks r = reads_concern word before after (IsRefusal (BadScript tile item)) asks r
reads_explain (TooLong place) word before after old new asks r = reads_concern word before after (IsRefusal (TooLong place)) asks r
reads_explain SinkFault word before after old new asks r = absurd r.is
reads_explain OutOfMemory word before after old new asks r = tt

-- ---- what a status says is what stands for the unit

answered : (status : Status) (s : Shape) → IsRefusal status s → (status ≡ OutOfMemory) ⊎ IsAnswerTo s status
answered Sent s r = absurd r
answered Usage s r = absurd r
answered SourceFault s r = absurd r
answered TooLarge s r = absurd r
answered BadText s r = let P : Shape → Type 0 = λ x. IsAnswerTo x BadText in inr (subst P (sym r) refl)
answered (BadShape path) s r = let P : Shape → Type 0 = λ x. IsAnswerTo x (BadShape path) in inr (subst P (sym r) refl)
answered (Refused place rule) s r =
    let P : Shape → Type 0 = λ x. IsAnswerTo x (Refused place rule) in
    let Q : Option UnitError → Type 0 = λ o. IsVerdict o (Refused place rule) in
    inr (subst P (sym r.fits) (subst Q (sym r.is) refl))
answered (BadScript tile item) s r =
    let P : Shape → Type 0 = λ x. IsAnswerTo x (BadScript tile item) in
    let Q : Option UnitError → Type 0 = λ o. IsVerdict o (BadScript tile item) in
    inr (subst P (sym r.fits) (subst Q (sym r.is) refl))
answered (TooLong place) s r =
    let P : Shape → Type 0 = λ x. IsAnswerTo x (TooLong place) in
    let Q : Option UnitError → Type 0 = λ o. IsVerdict o (TooLong place) in
    inr (subst P (sym r.fits) (subst Q (sym r.is) refl))
answered SinkFault s r = absurd r
answered OutOfMemory s r = inl refl

-- of a number
pub made_answered : (status : Status) (n : ℕ) (before after : Option (List ℕ)) (old new : ℕ) → Explains status (Some (Make n)) before after old new → (status ≡ OutOfMemory) ⊎ IsAnswerTo (made n) status
made_answered Sent n before after old new e = absurd e
made_answered Usage n before after old new e = absurd cc
made_answered SourceFault n before after old new e = absurd e.0
made_answered TooLarge n before after old new e = absurd e.0
made_answered BadText n before after old new e = answered BadText (made n) e.1
made_answered (BadShape path) n before after old new e = answered (BadShape path) (made n) e.1
made_answered (Refused place rule) n before after old new e = answered (Refused place rule) (made n) e.1
made_answered (BadScript tile item) n before after old new e = answered (BadScript tile item) (made n) e.1
made_answered (TooLong place) n before after old new e = answered (TooLong place) (made n) e.1
made_answered SinkFault n before after old new e = absurd e
made_answered OutOfMemory n before after old new e = inl refl

-- a shape is a valid unit
IsValidShape : Shape → Type 0
IsValidShape NoReading = ⊥
IsValidShape (Unfit path) = ⊥
IsValidShape (Fits found) = first_refusal found.0 ≡ None

-- of a number whose unit is valid there is no text only for want of memory
pub made_valid : (status : Status) (n : ℕ) (before after : Option (List ℕ)) (old new : ℕ) → IsValid (made n) → Explains status (Some (Make n)) before after old new → status ≡ OutOfMemory
unfolding IsValidShape
made_valid status n before after old new v e =
    let right : first_refusal (made_unit n) ≡ None = subst IsValidShape (sym v.fits) v.is in
    let Why : Status → Type 0 = λ s. Explains s (Some (Make n)) before after old new in
    let Verdict : Option UnitError → Type 0 = λ o. IsVerdict o status in
    elim (made_answered status n before after old new e) [
      | inl m ↦ m
      | inr a ↦ elim (subst Verdict right a) [
        | inl sent ↦ absurd (subst Why sent e)
        | inr fault ↦ absurd (subst Why fault e)
      ]
    ]

-- of an input
concern_reads : (asked : Option Word) (before after : Option (List ℕ)) (P : Shape → Type 0) → AsksForInput asked → Concerns asked before after P → Reads before after (λ input. P (shape input))
concern_reads None before after P asks c = absurd asks
concern_reads (Some Write) before after P asks c = c
concern_reads (Some Raw) before after P asks c = c
concern_reads (Some (Make n)) before after P asks c = absurd asks

read_refusal : (status : Status) (asked : Option Word) (input : List ℕ) (before after : Option (List ℕ)) → AsksForInput asked → before ≡ Some input → Concerns asked before after (IsRefusal status)
    → (status ≡ OutOfMemory) ⊎ IsAnswer input status
read_refusal status asked input before after asks told c =
    let r = concern_reads asked before after (IsRefusal status) asks c in
    let same : r.input ≡ input = (r.all input told).0 in
    let few : length input ≤ 2 ^ 26 = subst (λ xs. length xs ≤ 2 ^ 26) same r.allowed in
    let is : IsRefusal status (shape input) = subst (λ xs. IsRefusal status (shape xs)) same r.is in
    elim (answered status (shape input) is) [
      | inl m ↦ inl m
      | inr a ↦ inr (rw (le-ltb (2 ^ 26) (length input) few) a)
    ]

not_both : (old new : ℕ) → Still old new → Rose old new → ⊥
not_both old new still rose = grind (arith, still.same, still.below, rose.more)

asks_usage : (asked : Option Word) → AsksForInput asked → asked ≡ None → ⊥
asks_usage asked asks e = subst AsksForInput e asks

pub read_answered : (status : Status) (asked : Option Word) (input : List ℕ) (before after : Option (List ℕ)) (old new : ℕ) → AsksForInput asked → before ≡ Some input → Still old new
    → Explains status asked before after old new → (status ≡ OutOfMemory) ⊎ IsAnswer input status
read_answered Sent asked input before after old new asks told still e = absurd e
read_answered Usage asked input before after old new asks told still e = absurd (asks_usage asked asks e)
read_answered SourceFault asked input before after old new asks told still e = absurd (not_both old new still e.1)
read_answered TooLarge asked input before after old new asks told still e =
    let more = e.1 in
    let long : 2 ^ 26 < length input = omega (arith, more.1, (more.3.told input told).0) in
    inr (rw (lt-ltb (2 ^ 26) (length input) long) refl)
read_answered BadText asked input before after old new asks told still e = read_refusal BadText asked input before after asks told e
read_answered (BadShape path) asked input before after old new asks told still e = read_refusal (BadShape path) asked input before after asks told e
read_answered (Refused place rule) asked input before after old new asks told still e = read_refusal (Refused place rule) asked input before after asks told e
read_answered (BadScript tile item) asked input before after old new asks told still e = read_refusal (BadScript tile item) asked input before after asks told e
read_answered (TooLong place) asked input before after old new asks told still e = read_refusal (TooLong place) asked input before after asks told e
read_answered SinkFault asked input before after old new asks told still e = absurd e
read_answered OutOfMemory asked input before after old new asks told still e = inl refl

-- the status that is told is that one, or want of memory
pub told_answer : (result status : Status) (P : Status → Type 0) (Q : Type 0) → (result ≡ status) ⊎ ((result ≡ OutOfMemory) × Q) → (status ≡ OutOfMemory) ⊎ P status → (result ≡ OutOfMemory) ⊎ P result
told_answer result status P Q (inl same) (inl m) = inl (same ∙ m)
told_answer result status P Q (inl same) (inr p) = inr (subst P (sym same) p)
told_answer result status P Q (inr m) answer = inl m.0
