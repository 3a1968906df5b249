use mathlib.Core.Path.{◌≡◌, sym, ◌∙◌}
use mathlib.Core.Bool.{true}
use Rattle.parties.specs.protocol.Measures.{passes}
use Rattle.parties.specs.protocol.Client.{read_client}
use Rattle.parties.specs.protocol.ClientEvents.{on_client, unchanged}
use Rattle.parties.specs.client.Record.{record_of}
use Rattle.parties.proofs.client.GateLaws.{guarded-measures, guarded-short, guarded-number, guarded_through, broken_record}
use Rattle.parties.proofs.client.gate.admit.Goals as goal

pub returns-then-not-pass : goal.returns-then-not-pass
returns-then-not-pass c =
    λ room out f.
    let a = c.args in
    let client = record_of a.p a.area.now in
    guarded-measures a.s a.enough a.within (on_client a.s client room out (read_client a.s client) f) (λ x. unchanged x client room out)
    (sym c.pass.ensures ∙ c.if-not-pass.true)

pub returns-then-not-enough : goal.returns-then-not-enough
returns-then-not-enough c =
    let measured : passes c.args.s ≡ true =
    sym c.pass.ensures ∙ c.if-not-pass.false in
    λ room out f.
    let a = c.args in
    let client = record_of a.p a.area.now in
    guarded-short a.s a.enough a.within (on_client a.s client room out (read_client a.s client) f) (λ x. unchanged x client room out)
    measured (c.if-not-enough.true)

pub returns-then-not-within : goal.returns-then-not-within
returns-then-not-within c =
    let measured : passes c.args.s ≡ true =
    sym c.pass.ensures ∙ c.if-not-pass.false in
    λ room out f.
    let a = c.args in
    let client = record_of a.p a.area.now in
    guarded-number a.s a.enough a.within (on_client a.s client room out (read_client a.s client) f) (λ x. unchanged x client room out)
    measured (c.if-not-enough.false) (c.if-not-within.true)

pub sound-requires : goal.sound-requires
sound-requires c =
    let measured : passes c.args.s ≡ true =
    sym c.pass.ensures ∙ c.if-not-pass.false in
    (c.requires (c.if-not-enough.false))

pub returns-then-not-sound : goal.returns-then-not-sound
returns-then-not-sound c =
    let measured : passes c.args.s ≡ true =
    sym c.pass.ensures ∙ c.if-not-pass.false in
    λ room out f.
    let a = c.args in
    let client = record_of a.p a.area.now in
    guarded_through a.s a.enough a.within (on_client a.s client room out (read_client a.s client) f) (λ x. unchanged x client room out)
    measured (c.if-not-enough.false) (c.if-not-within.false)
    ∙ broken_record a.s client room out (read_client a.s client) f (sym c.sound.ensures ∙ c.if-not-sound.true)

pub returns : goal.returns
returns c =
    let a = c.args in (
      c.if-not-enough.false,
      c.if-not-within.false,
      sym c.sound.ensures ∙ c.if-not-sound.false,
    )
