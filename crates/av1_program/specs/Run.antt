-- What a run of the program reads and sends.
use Rattle.std.specs.Prelude.{◌≡◌, ℕ, ◌+◌, ◌^◌, ◌<◌, ◌≤◌, ◌⊎◌, MatchBool, nat_lt, List, [], length, map, take, String, string_bytes, Option, Some, None}
use Rattle.av1_bits.specs.Outside.{Rose, Still, Takes, appended}
use Rattle.av1_bits.specs.declared.outside.Sink.{Ghosts as SinkGhosts}
use Rattle.av1_bits.specs.declared.outside.Source.{Ghosts as SourceGhosts}
use Rattle.av1_geometry.specs.declared.error.Rule.{Rule}
use Rattle.av1_tile.specs.declared.error.Place.{Place}
use Rattle.av1_tile.specs.declared.error.UnitError.{UnitError}
use Rattle.av1_tile.specs.declared.error.UnitError.TheVariants as errors
use Rattle.av1_tile.specs.declared.coding.Via.{Via}
use Rattle.av1_unit.specs.Findings.{first_refusal}
use Rattle.av1_unit.specs.Headline.{IsWritten}
use Rattle.av1_unit.specs.Plain.{PlainUnit}
use Rattle.av1_unit.specs.Report.{ReportLists}
use Rattle.av1_program.specs.declared.run.Output.{Output}
use Rattle.av1_program.specs.declared.status.Status.{Status}
use Rattle.av1_program.specs.declared.status.Status.TheVariants.{Sent, Usage, SourceFault, TooLarge, BadText, BadShape}
use Rattle.av1_program.specs.declared.status.Status.TheVariants.{Refused, BadScript, TooLong, SinkFault, OutOfMemory}
use Rattle.av1_program.specs.Shape.{Shape, NoReading, Unfit, Fits, made, shape}
use Rattle.av1_program.specs.Status.{IsBadShape, of_unit_error}
use Rattle.av1_program.specs.declared.words.Word.{Word}
use Rattle.av1_program.specs.declared.words.Word.TheVariants.{Write, Raw, Make}
use Rattle.av1_program.specs.Text.{err_text, out_text}
use Rattle.av1_program.specs.Words.{word_of}

-- What is asked for is told of a unit that this stands for: this to `out`, and this to `err`.
pub record IsOutput (asked : Option Word) (shape : Shape) (out err : List ℕ) : Type 0 where
  pub word : Word
  pub is : asked ≡ Some word
  pub unit : PlainUnit
  pub via : Via
  pub bytes : List ℕ
  pub report : ReportLists
  pub fits : shape ≡ Fits (unit, via)
  pub written : IsWritten unit bytes report
  pub out_is : out ≡ out_text word bytes report
  pub err_is : err ≡ err_text word report

abbrev pub IsOutputOf : Option Word → Output → Shape → Type 0
IsOutputOf word output shape = IsOutput word shape output.out.items (string_bytes output.err)

-- it stands for a unit of which P holds
pub record StandsFor (P : PlainUnit → Type 0) (shape : Shape) : Type 0 where
  pub unit : PlainUnit
  pub via : Via
  pub fits : shape ≡ Fits (unit, via)
  pub is : P unit

-- it stands for a unit that breaks this rule at this place, and nothing before it is wrong
abbrev pub IsRefused : Place → Rule → Shape → Type 0
IsRefused place rule = StandsFor (λ unit. first_refusal unit ≡ Some (errors.Refused place rule))

-- it stands for a unit whose script is bad at this item, and nothing before it is wrong
abbrev pub HasBadScript : ℕ → ℕ → Shape → Type 0
HasBadScript tile item = StandsFor (λ unit. first_refusal unit ≡ Some (errors.BadScript tile item))

-- it stands for a unit that has a step here that would begin after too many bits, and nothing before it is wrong
abbrev pub IsTooLong : Place → Shape → Type 0
IsTooLong place = StandsFor (λ unit. first_refusal unit ≡ Some (errors.TooLong place))

-- it stands for a valid unit
abbrev pub IsValid : Shape → Type 0
IsValid = StandsFor (λ unit. first_refusal unit ≡ None)

-- The source was read to its end, and of the input P holds: of all bytes that were left, where the source tells them.
pub record Reads (before after : Option (List ℕ)) (P : List ℕ → Type 0) : Type 0 where
  pub input : List ℕ
  pub all : (bytes : List ℕ) → before ≡ Some bytes → (input ≡ bytes) × (after ≡ Some [])
  pub allowed : length input ≤ 2 ^ 26
  pub is : P input

-- P holds of what is asked for: of what the whole input stands for, or of what a number makes, where nothing is read
abbrev pub Concerns : Option Word → Option (List ℕ) → Option (List ℕ) → (Shape → Type 0) → Type 0
Concerns None before after P = ⊥
Concerns (Some Write) before after P = Reads before after (λ input. P (shape input))
Concerns (Some Raw) before after P = Reads before after (λ input. P (shape input))
Concerns (Some (Make n)) before after P = (after ≡ before) × P (made n)

-- the same, where this source stood so before and after, of a word or of all words of a run
abbrev pub AsksBy : {R : Type 0} → SourceGhosts R → Option Word → R → R → (Shape → Type 0) → Type 0
AsksBy source word old new P = Concerns word (source.left old) (source.left new) P

abbrev pub word_in : {Z : Type 0} → List (String Z) → Option Word
word_in words = word_of (map string_bytes words)

abbrev pub Asks : {Z R : Type 0} → SourceGhosts R → List (String Z) → R → R → (Shape → Type 0) → Type 0
Asks source words old new P = AsksBy source (word_in words) old new P

-- an input is asked for
abbrev pub AsksForInput : Option Word → Type 0
AsksForInput None = ⊥
AsksForInput (Some Write) = Unit {0}
AsksForInput (Some Raw) = Unit {0}
AsksForInput (Some (Make n)) = ⊥

-- more bytes were taken than an input may have: at most a last piece more
abbrev pub TakesMore : Option (List ℕ) → Option (List ℕ) → Type 0
TakesMore before after = (k : ℕ) × (2 ^ 26 < k) × (k ≤ 2 ^ 26 + 8192) × Takes k before after

-- no more bytes were taken than an input may have
abbrev pub TakesAtMost : Option (List ℕ) → Option (List ℕ) → Type 0
TakesAtMost before after = (k : ℕ) × (k ≤ 2 ^ 26) × Takes k before after

-- a front of the text was sent
abbrev pub IsSentFront : Option (List ℕ) → Option (List ℕ) → List ℕ → Type 0
IsSentFront before after text = (k : ℕ) × (k ≤ length text) × (after ≡ appended before (take k text))

-- a sink didn't fail
abbrev pub NoFault : {S : Type 0} → SinkGhosts S → S → S → Type 0
NoFault sink old new = Still (sink.faults old) (sink.faults new)

-- `out` received what is asked for of this, and so did `err`, or a front of it where it failed
pub record Receives {Z S E : Type 0} (words : List (String Z)) (out : SinkGhosts S) (out_old out_new : S) (err : SinkGhosts E) (err_old err_new : E)
    (shape : Shape) : Type 0 where
  pub to_out : List ℕ
  pub to_err : List ℕ
  pub is : IsOutput (word_in words) shape to_out to_err
  pub out_received : out.sent out_new ≡ appended (out.sent out_old) to_out
  pub err_received : NoFault err err_old err_new → err.sent err_new ≡ appended (err.sent err_old) to_err
  pub err_front : IsSentFront (err.sent err_old) (err.sent err_new) to_err

-- `out` received a front of it
pub record ReceivesFront {Z S : Type 0} (words : List (String Z)) (out : SinkGhosts S) (old new : S) (shape : Shape) : Type 0 where
  pub to_out : List ℕ
  pub to_err : List ℕ
  pub is : IsOutput (word_in words) shape to_out to_err
  pub received : IsSentFront (out.sent old) (out.sent new) to_out

-- A run was asked for an input, and given a source that tells this input and didn't fail.
pub record IsGiven {Z R : Type 0} (source : SourceGhosts R) (words : List (String Z)) (input : List ℕ) (old new : R) : Type 0 where
  pub word : AsksForInput (word_in words)
  pub told : source.left old ≡ Some input
  pub no_fault : Still (source.faults old) (source.faults new)

-- and the input stands for a valid unit
pub record IsGivenUnit {Z R : Type 0} (source : SourceGhosts R) (words : List (String Z)) (input : List ℕ) (old new : R) : Type 0 where
  pub given : IsGiven source words input old new
  pub allowed : length input ≤ 2 ^ 26
  pub valid : IsValid (shape input)

-- all was sent, or there was no memory for it
abbrev pub IsSentIfRoom : Status → Type 0
IsSentIfRoom status = (status ≡ OutOfMemory) ⊎ (status ≡ Sent)

-- why there is no text of what stands for this, by the status
abbrev pub IsRefusal : Status → Shape → Type 0
IsRefusal BadText shape = shape ≡ NoReading
IsRefusal (BadShape path) shape = shape ≡ Unfit (string_bytes path)
IsRefusal (Refused place rule) shape = IsRefused place rule shape
IsRefusal (BadScript tile item) shape = HasBadScript tile item shape
IsRefusal (TooLong place) shape = IsTooLong place shape
IsRefusal OutOfMemory shape = Unit {0}
IsRefusal _ shape = ⊥

-- why a run makes no text, by its status: of the word, what the source had left before and after, and its count of faults
abbrev pub Explains : Status → Option Word → Option (List ℕ) → Option (List ℕ) → ℕ → ℕ → Type 0
Explains Usage asked before after old new = asked ≡ None
Explains SourceFault asked before after old new = AsksForInput asked × Rose old new
Explains TooLarge asked before after old new = AsksForInput asked × TakesMore before after
Explains BadText asked before after old new = Concerns asked before after (IsRefusal BadText)
Explains (BadShape path) asked before after old new = Concerns asked before after (IsRefusal (BadShape path))
Explains (Refused place rule) asked before after old new = Concerns asked before after (IsRefusal (Refused place rule))
Explains (BadScript tile item) asked before after old new = Concerns asked before after (IsRefusal (BadScript tile item))
Explains (TooLong place) asked before after old new = Concerns asked before after (IsRefusal (TooLong place))
Explains OutOfMemory asked before after old new = Unit {0}
Explains _ asked before after old new = ⊥

abbrev pub Why : {R : Type 0} → SourceGhosts R → Option Word → R → R → Status → Type 0
Why source word old new status = Explains status word (source.left old) (source.left new) (source.faults old) (source.faults new)

-- the status of a unit by what is wrong with it: where nothing is, all is sent or the sink fails
abbrev pub IsVerdict : Option UnitError → Status → Type 0
IsVerdict None status = (status ≡ Sent) ⊎ (status ≡ SinkFault)
IsVerdict (Some error) status = status ≡ of_unit_error error

-- the status of a text by its shape
abbrev pub IsAnswerTo : Shape → Status → Type 0
IsAnswerTo NoReading status = status ≡ BadText
IsAnswerTo (Unfit path) status = IsBadShape path status
IsAnswerTo (Fits found) status = IsVerdict (first_refusal found.0) status

-- the status of an input
abbrev pub IsAnswer : List ℕ → Status → Type 0
IsAnswer input status = MatchBool (nat_lt (2 ^ 26) (length input)) (status ≡ TooLarge) (IsAnswerTo (shape input) status)
