use Rattle.std.proofs.Common.{◌≡◌, ◌∙◌, ◌⊎◌, ◌<◌, ℕ, true, false, Ok, sym, ap, subst, [], List, rules}
use denote.Param.Send.{sendable}
use Rattle.esm_model.specs.declared.setup.Setup.{Setup}
use Rattle.esm_model.specs.declared.setup.Told.{Told}
use Rattle.esm_input.specs.Reading.{InputState}
use Rattle.esm_pool.specs.Ran.{HasLeftOne, IsCut}
use Rattle.esm_pool.specs.declared.running.RunEnd.TheVariants.{Finished, Spent}
use Rattle.esm_pool.proofs.Leaving.{read_whole, some_came, change_of, cut_of, shut_so, left_none, left_some, came_so, left_so, ends_so, unread, cut_unread, on_ok_always, on_err_always}
use Rattle.esm_pool.proofs.Sent.{reader_send}
use Rattle.esm_pool.proofs.running.run_book.Goals as goal

pub run_hands-requires-send-W : goal.run_hands-requires-send-W
run_hands-requires-send-W g c κs within = search (reader_send, sendable) depth 10

pub run_hands-requires-clause-ready : goal.run_hands-requires-clause-ready
run_hands-requires-clause-ready g c κs within = unread c.args.input (g.B.Pooled.kind (g.B.Kept.setup c.args.book)) c.requires.kind c.requires.unread

pub end_of-end-requires-clause-shut : goal.end_of-end-requires-clause-shut
end_of-end-requires-clause-shut g c =
    let left = c.in-Ok.left in
    let whole = read_whole g.B.Kept.author g.B.Kept.may_follow g.B.Pooled.items g.B.Pooled.differs g.B.Pooled.spent (g.B.Kept.setup c.args.book) g.S.Source.faults g.S.Source.left c.args.input left.reader.input (g.B.Kept.history left.book) (g.B.Kept.mark left.book) (g.B.Kept.change left.book) left.short
    (c.stays.ensures.items (g.B.Kept.setup c.args.book)) c.in-Ok.ensures.read (c.stays.ensures.shut (g.B.Kept.setup c.args.book)) (λ h es. c.stays.ensures.spent (g.B.Kept.setup c.args.book) h es 0) c.if-short.false in
    shut_so g.S.Source.left g.B.Pooled.items g.B.Pooled.spent (g.B.Kept.setup c.args.book) left.reader.input (g.B.Kept.history left.book) (g.B.Kept.mark left.book) whole

pub returns-else-short-clause-ended : goal.returns-else-short-clause-ended
returns-else-short-clause-ended g c =
    let left = c.in-Ok.left in
    let whole = read_whole g.B.Kept.author g.B.Kept.may_follow g.B.Pooled.items g.B.Pooled.differs g.B.Pooled.spent (g.B.Kept.setup c.args.book) g.S.Source.faults g.S.Source.left c.args.input left.reader.input (g.B.Kept.history left.book) (g.B.Kept.mark left.book) (g.B.Kept.change left.book) left.short
    (c.stays.ensures.items (g.B.Kept.setup c.args.book)) c.in-Ok.ensures.read (c.stays.ensures.shut (g.B.Kept.setup c.args.book)) (λ h es. c.stays.ensures.spent (g.B.Kept.setup c.args.book) h es 0) c.if-short.false in
    let finished = subst (λ (u : Setup). c.end_of-end.result ≡ Ok Finished → (c.is_none.result ≡ false) × (g.B.Kept.mark left.book ≡ false) × ((k : ℕ) → k < c.args.batchers → g.B.Pooled.finished u (g.B.Kept.history left.book) k)) c.in-Ok.ensures.setup c.end_of-end.ensures.finished in
    let spent = subst (λ (u : Setup). c.end_of-end.result ≡ Ok Spent → (g.B.Kept.mark left.book ≡ false) × (HasLeftOne g.B.Pooled.left u (g.B.Kept.history left.book) c.args.batchers ⊎ (c.is_none.result ≡ true))) c.in-Ok.ensures.setup c.end_of-end.ensures.spent in
    ends_so g.S.Source.left g.B.Pooled.items g.B.Pooled.finished g.B.Pooled.left g.B.Pooled.spent (g.B.Kept.setup c.args.book) left.reader.input (g.B.Kept.history left.book) (g.B.Kept.mark left.book) c.args.batchers c.is_none.result
    (left_none c.end.result left.reader.input.end c.is_none.result c.end.ensures.value c.is_none.ensures) (left_some c.end.result left.reader.input.end c.is_none.result c.end.ensures.value c.is_none.ensures) whole
    c.end_of-end.result (c.excludes.ensures (g.B.Kept.setup c.args.book) (g.B.Kept.history left.book)) (c.in-Ok.ensures.ended c.if-short.false) finished spent c.end_of-end.ensures.down

pub returns-else-short-clause-left : goal.returns-else-short-clause-left
returns-else-short-clause-left g c =
    let left = c.in-Ok.left in
    let whole = read_whole g.B.Kept.author g.B.Kept.may_follow g.B.Pooled.items g.B.Pooled.differs g.B.Pooled.spent (g.B.Kept.setup c.args.book) g.S.Source.faults g.S.Source.left c.args.input left.reader.input (g.B.Kept.history left.book) (g.B.Kept.mark left.book) (g.B.Kept.change left.book) left.short
    (c.stays.ensures.items (g.B.Kept.setup c.args.book)) c.in-Ok.ensures.read (c.stays.ensures.shut (g.B.Kept.setup c.args.book)) (λ h es. c.stays.ensures.spent (g.B.Kept.setup c.args.book) h es 0) c.if-short.false in
    let spent = subst (λ (u : Setup). c.end_of-end.result ≡ Ok Spent → (g.B.Kept.mark left.book ≡ false) × (HasLeftOne g.B.Pooled.left u (g.B.Kept.history left.book) c.args.batchers ⊎ (c.is_none.result ≡ true))) c.in-Ok.ensures.setup c.end_of-end.ensures.spent in
    left_so g.S.Source.left g.B.Pooled.items g.B.Pooled.finished g.B.Pooled.left g.B.Pooled.spent (g.B.Kept.setup c.args.book) left.reader.input (g.B.Kept.history left.book) (g.B.Kept.mark left.book) c.args.batchers c.is_none.result
    (left_none c.end.result left.reader.input.end c.is_none.result c.end.ensures.value c.is_none.ensures) (left_some c.end.result left.reader.input.end c.is_none.result c.end.ensures.value c.is_none.ensures) whole
    c.end_of-end.result spent

pub returns-else-short-clause-came : goal.returns-else-short-clause-came
returns-else-short-clause-came g c =
    let left = c.in-Ok.left in
    let whole = read_whole g.B.Kept.author g.B.Kept.may_follow g.B.Pooled.items g.B.Pooled.differs g.B.Pooled.spent (g.B.Kept.setup c.args.book) g.S.Source.faults g.S.Source.left c.args.input left.reader.input (g.B.Kept.history left.book) (g.B.Kept.mark left.book) (g.B.Kept.change left.book) left.short
    (c.stays.ensures.items (g.B.Kept.setup c.args.book)) c.in-Ok.ensures.read (c.stays.ensures.shut (g.B.Kept.setup c.args.book)) (λ h es. c.stays.ensures.spent (g.B.Kept.setup c.args.book) h es 0) c.if-short.false in
    let finished = subst (λ (u : Setup). c.end_of-end.result ≡ Ok Finished → (c.is_none.result ≡ false) × (g.B.Kept.mark left.book ≡ false) × ((k : ℕ) → k < c.args.batchers → g.B.Pooled.finished u (g.B.Kept.history left.book) k)) c.in-Ok.ensures.setup c.end_of-end.ensures.finished in
    let spent = subst (λ (u : Setup). c.end_of-end.result ≡ Ok Spent → (g.B.Kept.mark left.book ≡ false) × (HasLeftOne g.B.Pooled.left u (g.B.Kept.history left.book) c.args.batchers ⊎ (c.is_none.result ≡ true))) c.in-Ok.ensures.setup c.end_of-end.ensures.spent in
    came_so g.S.Source.left g.B.Pooled.items g.B.Pooled.finished g.B.Pooled.left g.B.Pooled.spent (g.B.Kept.setup c.args.book) left.reader.input (g.B.Kept.history left.book) (g.B.Kept.mark left.book) c.args.batchers c.is_none.result
    (left_none c.end.result left.reader.input.end c.is_none.result c.end.ensures.value c.is_none.ensures) (left_some c.end.result left.reader.input.end c.is_none.result c.end.ensures.value c.is_none.ensures) whole
    c.end_of-end.result finished spent (some_came g.B.Kept.author g.B.Kept.may_follow g.B.Pooled.items g.B.Pooled.differs g.B.Pooled.spent (g.B.Kept.setup c.args.book) g.S.Source.faults g.S.Source.left c.args.input left.reader.input (g.B.Kept.history left.book) (g.B.Kept.mark left.book) (g.B.Kept.change left.book) left.short
    (c.stays.ensures.items (g.B.Kept.setup c.args.book)) c.in-Ok.ensures.read c.if-short.false)

pub returns-else-short-clause-changed : goal.returns-else-short-clause-changed
returns-else-short-clause-changed g c =
    let left = c.in-Ok.left in
    on_ok_always c.end_of-end.result _ (change_of g.B.Kept.author g.B.Kept.may_follow g.B.Pooled.items g.B.Pooled.differs g.B.Pooled.spent (g.B.Kept.setup c.args.book) g.S.Source.faults g.S.Source.left c.args.input left.reader.input (g.B.Kept.history left.book) (g.B.Kept.mark left.book) (g.B.Kept.change left.book) left.short
    (c.stays.ensures.items (g.B.Kept.setup c.args.book)) c.in-Ok.ensures.read c.if-short.false)

pub returns-else-short-clause-cut : goal.returns-else-short-clause-cut
returns-else-short-clause-cut g c =
    let left = c.in-Ok.left in
    on_err_always c.end_of-end.result _ (cut_of g.B.Kept.author g.B.Kept.may_follow g.B.Pooled.items g.B.Pooled.differs g.B.Pooled.spent (g.B.Kept.setup c.args.book) g.S.Source.faults g.S.Source.left c.args.input left.reader.input (g.B.Kept.history left.book) (g.B.Kept.mark left.book) (g.B.Kept.change left.book) left.short
    (c.stays.ensures.items (g.B.Kept.setup c.args.book)) c.in-Ok.ensures.read)

pub returns-then-short-clause-cut : goal.returns-then-short-clause-cut
returns-then-short-clause-cut g c =
    let left = c.in-Ok.left in
    cut_of g.B.Kept.author g.B.Kept.may_follow g.B.Pooled.items g.B.Pooled.differs g.B.Pooled.spent (g.B.Kept.setup c.args.book) g.S.Source.faults g.S.Source.left c.args.input left.reader.input (g.B.Kept.history left.book) (g.B.Kept.mark left.book) (g.B.Kept.change left.book) left.short
    (c.stays.ensures.items (g.B.Kept.setup c.args.book)) c.in-Ok.ensures.read

pub returns-in-Err-clause-cut : goal.returns-in-Err-clause-cut
returns-in-Err-clause-cut g c =
    let book : c.in-Err.refused.back.0 ≡ c.args.book = search rules in
    let input : c.in-Err.refused.back.1.input ≡ c.args.input = search rules in
    let none : (n : ℕ) → g.B.Pooled.items (g.B.Kept.history c.in-Err.refused.back.0) n ≡ [] = λ n. ap (λ (h : List Told). g.B.Pooled.items h n) (ap g.B.Kept.history book ∙ c.requires.new) ∙ c.begins.ensures.items n in
    subst (λ (i : InputState _). IsCut g.S.Source.left i (g.B.Pooled.items (g.B.Kept.history c.in-Err.refused.back.0))) (sym input)
    (cut_unread g.S.Source.left c.args.input (g.B.Pooled.items (g.B.Kept.history c.in-Err.refused.back.0)) none c.requires.unread)
