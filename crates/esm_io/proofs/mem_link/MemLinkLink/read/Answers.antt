use Rattle.std.proofs.Common.{◌≡◌, ◌++◌, take, drop, sym, ◌∙◌, ap}
use Rattle.esm_io.specs.Forms.{LinkState}
use Rattle.esm_io.proofs.mem_link.MemLinkLink.read.Goals as goal

pub returns-clause-taken : goal.returns-clause-taken
returns-clause-taken c =
    let bytes = c.self.inside.bytes.items in
    let taken = take c.give_front.result c.give_front.new.into in
    let left = ap (λ (v : LinkState). v.talk.left) c.self.view_is in
    let read : take c.give_front.new.at bytes ≡ c.args.self.now.talk.read ++ taken = (rw c.deref.ensures.value at c.give_front.ensures.read) ∙ ap (λ front. front ++ taken) (ap (λ (v : LinkState). v.talk.read) c.self.view_is) in
    let written = ap (λ (v : LinkState). v.talk.written) c.self.view_is in
    (drop c.give_front.new.at bytes, sym left ∙ (rw c.deref.ensures.value at c.give_front.ensures.given), cc)
