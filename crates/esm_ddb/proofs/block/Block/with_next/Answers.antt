use Rattle.std.proofs.Common.{◌≡◌, ◌++◌, true, false, ℕ, List, [], sym, subst}
use Rattle.std.specs.List.{concat}
use Rattle.std.specs.Prelude.{is_some}
use Rattle.esm_ddb.specs.Blocks.{state_after}
use Rattle.esm_ddb.specs.Translating.{State, Stands}
use Rattle.esm_ddb.specs.Translation.{translation_so_far}
use Rattle.esm_ddb.proofs.Blocks.{appended, bad_stands, stands_behind}
use Rattle.esm_ddb.proofs.block.Block.with_next.Goals as goal

pub returns-then-is_some : goal.returns-then-is_some
returns-then-is_some c = λ s xs ys whole first second.
    let some : is_some c.args.self.bad ≡ true = cc in
    bad_stands s xs ys [] (concat c.args.self.pieces.items) (state_after s c.args.self) first some

pub returns : goal.returns
returns c = λ s xs ys whole first second.
    let none : is_some c.args.self.bad ≡ false = cc in
    let now : State = record { source = s; good = c.in_ok-counted.counted.good; begun = []; bad = c.in_ok-counted.counted.bad } in
    let P : List ℕ → Type 0 = λ given. Stands (translation_so_far s (xs ++ ys)) [] given now in
    subst P (sym (appended c.args.self.pieces.items c.args.next.pieces.items c.append.new.self.items c.in_ok-append.ensures.items))
    (stands_behind s xs ys [] (concat c.args.self.pieces.items) (concat c.args.next.pieces.items) (state_after s c.args.self) (state_after s c.args.next) now
    whole first none second c.in_ok-counted.ensures.good c.in_ok-counted.ensures.bad)
