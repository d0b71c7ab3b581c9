use Rattle.std.proofs.Common.{◌≡◌, ◌<◌, ◌++◌, List, ℕ, None, length, take, get_or, sym, ap, ◌∙◌, subst, arith, append_assoc}
use Rattle.std.specs.List.{enumerate_from}
use Rattle.std.proofs.lemmas.List.Elements.{All-more}
use Rattle.av1_frame.specs.MetadataRules.{metadata_rules}
use Rattle.av1_frame.specs.declared.metadata.Metadata.{Metadata}
use Rattle.av1_geometry.specs.Rules.{first_broken}
use Rattle.av1_unit.specs.Findings.{messages_wrong}
use Rattle.av1_unit.specs.Framing.{bytes_of_obus, message_obu, messages_of}
use Rattle.av1_unit.specs.HeaderReading.{IsMessageRead}
use Rattle.av1_unit.proofs.MessageReading.{messages_more}
use Rattle.av1_unit.proofs.ObuLengths.{message_at}
use Rattle.av1_unit.proofs.framing.push_messages.Goals as goal

pub message-requires : goal.message-requires
message-requires c =
    let seq = c.args.unit.now.fi.sequence in
    let ms = c.deref-metadata-items.result.now in
    let k = c.loop-metadata.metadata-index in
    let m = c.metadata-item.result in
    let within : k < length ms = omega (arith, c.loop-metadata-test.true) in
    let same : get_or ms k m ≡ m = sym c.metadata-item.is in
    let right : messages_wrong seq (enumerate_from 0 ms) ≡ None = ap (λ l. messages_wrong seq (enumerate_from 0 l)) c.deref-metadata-items.ensures.value ∙ c.requires.messages in
    sym (ap (λ (x : Metadata). first_broken (metadata_rules x seq)) same) ∙ message_at seq 0 ms k m right within

pub loop-metadata-preserved : goal.loop-metadata-preserved
loop-metadata-preserved c =
    let seq = c.args.unit.now.fi.sequence in
    let ms = c.deref-metadata-items.result.now in
    let k = c.loop-metadata.metadata-index in
    let m = c.metadata-item.result in
    let within : k < length ms = omega (arith, c.loop-metadata-test.true) in
    let same : m ≡ get_or ms k m = c.metadata-item.is in
    let message : c.deref.result.now ≡ (message_obu seq m).bytes = c.deref.ensures.value ∙ c.in_ok-message.ensures.is in
    let start = c.args.bytes.now.items in
    record {
      grown = c.in_ok-extend_from_slice.ensures.items ∙ ap (λ (l : List ℕ). l ++ c.deref.result.now) c.loop-metadata.invariant.grown
          ∙ ap (λ (l : List ℕ). start ++ bytes_of_obus (messages_of seq (take k ms)) ++ l) message ∙ append_assoc start (bytes_of_obus (messages_of seq (take k ms))) (message_obu seq m).bytes
          ∙ ap (λ (l : List ℕ). start ++ l) (sym (messages_more seq ms k m within same));
      read = All-more (IsMessageRead seq) ms k m within c.loop-metadata.invariant.read (subst (λ (x : Metadata). IsMessageRead seq x) same c.in_ok-message.ensures.header);
    }
