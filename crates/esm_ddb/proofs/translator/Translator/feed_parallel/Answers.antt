use Rattle.std.proofs.Common.{rules, ◌≡◌, ◌∙◌, ◌++◌, sym, ap, subst}
use Rattle.std.specs.List.{concat}
use Rattle.esm_ddb.specs.States.{state_of}
use Rattle.esm_ddb.specs.Translating.{State, IsFed}
use Rattle.esm_ddb.specs.Translation.{translation_so_far}
use Rattle.esm_ddb.specs.declared.source.Source.{Source}
use Rattle.esm_ddb.proofs.Feeds.{fed_from, fed_to}
use Rattle.esm_ddb.proofs.translator.Translator.feed_parallel.Goals as goal

pub returns-clause-text : goal.returns-clause-text
returns-clause-text g c = λ bytes fed.
    let same : c.args.self.now.state ≡ state_of c.self.inside.reading = first_of (cc, search rules) in
    let before = (translation_so_far c.self.inside.reading.source bytes).text in
    let begins = fed_from bytes (state_of c.self.inside.reading) (subst (λ (s : State). IsFed bytes s) same fed) in
    let read = c.in_ok-turned.ensures.read bytes before begins in
    subst (λ (s : State). (translation_so_far s.source bytes).text ++ concat c.in_ok-turned.turned.pieces.items ≡ (translation_so_far s.source (bytes ++ c.args.piece.now)).text) (sym same)
    (sym read.stands.text ∙ ap (λ (s : Source). (translation_so_far s (bytes ++ c.args.piece.now)).text) c.in_ok-turned.ensures.source)

pub returns-clause-bad : goal.returns-clause-bad
returns-clause-bad g c = λ bytes fed.
    let same : c.args.self.now.state ≡ state_of c.self.inside.reading = first_of (cc, search rules) in
    let before = (translation_so_far c.self.inside.reading.source bytes).text in
    let begins = fed_from bytes (state_of c.self.inside.reading) (subst (λ (s : State). IsFed bytes s) same fed) in
    let read = c.in_ok-turned.ensures.read bytes before begins in
    subst (λ (s : State). c.in_ok-turned.turned.bad ≡ (translation_so_far s.source (bytes ++ c.args.piece.now)).bad) (sym same)
    (c.in_ok-turned.ensures.bad ∙ sym read.stands.bad ∙ ap (λ (s : Source). (translation_so_far s (bytes ++ c.args.piece.now)).bad) c.in_ok-turned.ensures.source)

pub returns-clause-fed : goal.returns-clause-fed
returns-clause-fed g c = λ bytes fed.
    let same : c.args.self.now.state ≡ state_of c.self.inside.reading = first_of (cc, search rules) in
    let before = (translation_so_far c.self.inside.reading.source bytes).text in
    let begins = fed_from bytes (state_of c.self.inside.reading) (subst (λ (s : State). IsFed bytes s) same fed) in
    let read = c.in_ok-turned.ensures.read bytes before begins in
    fed_to (bytes ++ c.args.piece.now) before (concat c.in_ok-turned.turned.pieces.items) (state_of c.feed_piece_parallel.new.reading) read
