use Rattle.std.proofs.Common.{◌≡◌, List, ℕ, [], sym, subst}
use Rattle.std.specs.Prelude.{IfSome, IfNone}
use Rattle.esm_book.specs.Decided.{IsLineWithin}
use Rattle.esm_stream_core.specs.CoreView.{full_setting}
use Rattle.esm_stream_core.proofs.Tellings.{lines_told}
use Rattle.esm_stream_core.proofs.decisions.StreamCoreDecisions.owed_line_bound.Goals as goal

pub returns-clause-within : goal.returns-clause-within
returns-clause-within c =
    let v = c.args.self.now in
    subst (λ (lines : List (List ℕ)). IfSome c.owed_line_bound.result (IsLineWithin lines)) (sym (lines_told (full_setting v) v.owed)) c.owed_line_bound.ensures.within

pub returns-clause-none : goal.returns-clause-none
returns-clause-none c =
    let v = c.args.self.now in
    subst (λ (lines : List (List ℕ)). IfNone c.owed_line_bound.result (lines ≡ [])) (sym (lines_told (full_setting v) v.owed)) c.owed_line_bound.ensures.none
