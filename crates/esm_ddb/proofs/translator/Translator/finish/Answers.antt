use Rattle.std.proofs.Common.{rules, ◌≡◌, ◌∙◌, ◌++◌, sym, subst}
use Rattle.esm_ddb.specs.States.{state_of}
use Rattle.esm_ddb.specs.Translating.{State, IsFed}
use Rattle.esm_ddb.specs.Translation.{translation_of, translation_so_far}
use Rattle.esm_ddb.proofs.Feeds.{fed_from}
use Rattle.esm_ddb.proofs.translator.Translator.finish.Goals as goal

pub returns-clause-text : goal.returns-clause-text
returns-clause-text c = λ bytes fed.
    let same : c.args.self.now.state ≡ state_of c.self.inside.reading = first_of (cc, search rules) in
    let before = (translation_so_far c.self.inside.reading.source bytes).text in
    let begins = fed_from bytes (state_of c.self.inside.reading) (subst (λ (s : State). IsFed bytes s) same fed) in
    let read = c.in_ok-turned.ensures.read bytes before begins in
    subst (λ (s : State). (translation_so_far s.source bytes).text ++ c.in_ok-turned.turned.bytes ≡ (translation_of s.source bytes).text) (sym same) (sym read.text)

pub returns-clause-bad : goal.returns-clause-bad
returns-clause-bad c = λ bytes fed.
    let same : c.args.self.now.state ≡ state_of c.self.inside.reading = first_of (cc, search rules) in
    let before = (translation_so_far c.self.inside.reading.source bytes).text in
    let begins = fed_from bytes (state_of c.self.inside.reading) (subst (λ (s : State). IsFed bytes s) same fed) in
    let read = c.in_ok-turned.ensures.read bytes before begins in
    subst (λ (s : State). c.in_ok-turned.turned.bad ≡ (translation_of s.source bytes).bad) (sym same) (c.in_ok-turned.ensures.bad ∙ sym read.bad)
