use Rattle.std.proofs.Common.{◌≡◌, ◌<◌, ◌∙◌, ◌++◌, [], false, length, take, ap, subst, None}
use Rattle.esm_input.specs.Reading.{InputState, handed}
use Rattle.esm_input.proofs.Pieces.{read_on, valid_out, taken_some, taken_same}
use Rattle.esm_input.proofs.input.Input.read.Goals as goal

pub returns-in-Err-clause-taken : goal.returns-in-Err-clause-taken
returns-in-Err-clause-taken g c = taken_some g.S.Source.left _ c.args.self.now c.read_bytes.new.source [] c.self.view_is (taken_same (g.S.Source.left c.self.inside.source) (g.S.Source.left c.read_bytes.new.source) c.in-Err.ensures.untaken)

pub returns-in_err-fed-clause-taken : goal.returns-in_err-fed-clause-taken
returns-in_err-fed-clause-taken g c = taken_some g.S.Source.left _ c.args.self.now c.read_bytes.new.source (take c.in-Ok.count c.read_bytes.new.buffer.items) c.self.view_is c.in-Ok.ensures.taken

pub returns-in_err-taken-clause-taken : goal.returns-in_err-taken-clause-taken
returns-in_err-taken-clause-taken g c = taken_some g.S.Source.left _ c.args.self.now c.read_bytes.new.source (take c.in-Ok.count c.read_bytes.new.buffer.items) c.self.view_is c.in-Ok.ensures.taken

pub invariant_of-self-2 : goal.invariant_of-self-2
invariant_of-self-2 g c =
    let good : c.self.inside.failed ≡ false = ap (λ (s : InputState g.row.S.Denot). s.failed) c.self.view_is ∙ c.requires.good in
    let none : c.self.inside.end ≡ None = ap (λ (s : InputState g.row.S.Denot). s.end) c.self.view_is ∙ c.requires.going in
    let on = read_on g.S.Source.faults g.S.Source.left c.read_bytes.new.source c.in-Ok.count (c.self.invariant good) none good c.in_ok-taken.ensures.taken c.in_ok-taken.ensures.within
    c.read_lines.ensures.kind c.deref.ensures.value c.deref.ensures.len c.read_bytes.ensures.room c.in-Ok.ensures.within c.in_ok-fed.ensures.bytes c.in_ok-fed.ensures.finished
    c.in-Ok.ensures.taken c.in-Ok.ensures.end c.read_bytes.ensures.count c.in_ok-fed.ensures.items c.in_ok-fed.ensures.bad in
    λ _. on.reading

pub returns-clause-handed : goal.returns-clause-handed
returns-clause-handed g c =
    let good : c.self.inside.failed ≡ false = ap (λ (s : InputState g.row.S.Denot). s.failed) c.self.view_is ∙ c.requires.good in
    let none : c.self.inside.end ≡ None = ap (λ (s : InputState g.row.S.Denot). s.end) c.self.view_is ∙ c.requires.going in
    let on = read_on g.S.Source.faults g.S.Source.left c.read_bytes.new.source c.in-Ok.count (c.self.invariant good) none good c.in_ok-taken.ensures.taken c.in_ok-taken.ensures.within
    c.read_lines.ensures.kind c.deref.ensures.value c.deref.ensures.len c.read_bytes.ensures.room c.in-Ok.ensures.within c.in_ok-fed.ensures.bytes c.in_ok-fed.ensures.finished
    c.in-Ok.ensures.taken c.in-Ok.ensures.end c.read_bytes.ensures.count c.in_ok-fed.ensures.items c.in_ok-fed.ensures.bad in
    on.gives ∙ ap (λ (s : InputState g.row.S.Denot). handed s ++ c.in_ok-taken.taken.items.items) c.self.view_is

pub returns-clause-goes_on : goal.returns-clause-goes_on
returns-clause-goes_on g c =
    let good : c.self.inside.failed ≡ false = ap (λ (s : InputState g.row.S.Denot). s.failed) c.self.view_is ∙ c.requires.good in
    let none : c.self.inside.end ≡ None = ap (λ (s : InputState g.row.S.Denot). s.end) c.self.view_is ∙ c.requires.going in
    let on = read_on g.S.Source.faults g.S.Source.left c.read_bytes.new.source c.in-Ok.count (c.self.invariant good) none good c.in_ok-taken.ensures.taken c.in_ok-taken.ensures.within
    c.read_lines.ensures.kind c.deref.ensures.value c.deref.ensures.len c.read_bytes.ensures.room c.in-Ok.ensures.within c.in_ok-fed.ensures.bytes c.in_ok-fed.ensures.finished
    c.in-Ok.ensures.taken c.in-Ok.ensures.end c.read_bytes.ensures.count c.in_ok-fed.ensures.items c.in_ok-fed.ensures.bad in
    λ more. subst (λ (s : InputState g.row.S.Denot). length s.bytes < length c.read_lines.new.lines.bytes) c.self.view_is (on.grows more)

pub returns-clause-valid : goal.returns-clause-valid
returns-clause-valid g c = valid_out c.self.inside.lines.kind c.args.self.now.kind _ _ _ _ _ _ _ c.in_ok-fed.fed.items.items _ c.in_ok-taken.taken.items.items _
    (ap (λ (s : InputState g.row.S.Denot). s.kind) c.self.view_is) c.in_ok-fed.ensures.valid c.in_ok-taken.ensures.taken

pub returns-clause-taken : goal.returns-clause-taken
returns-clause-taken g c = taken_some g.S.Source.left _ c.args.self.now c.read_bytes.new.source (take c.in-Ok.count c.read_bytes.new.buffer.items) c.self.view_is c.in-Ok.ensures.taken
