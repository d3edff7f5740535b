use Rattle.std.proofs.Common.{◌≡◌, ◌-◌, length, Some, None, refl, ap, ◌∙◌, arith}
use Rattle.json.specs.Json.{read_key, value}
use Rattle.json.proofs.Grammar.{read_key-shorter, members_end, members_no_key}
use Rattle.serde_json.specs.Data.{put, no_members}
use Rattle.serde_json.specs.Read.{converted}
use Rattle.esm_record.proofs.LineTokens.{members_after, member_turn}
use Rattle.esm_record.proofs.Tokens.{on_err}
use Rattle.esm_record.proofs.Leaves.{none_found}
use Rattle.esm_record.proofs.object.read_members.Goals as goal

pub members-init : goal.members-init
members-init c = (length c.args.reader.now, no_members, omega arith, refl, none_found c.args.found.now c.requires.empty, c.requires.sized)

pub returns-in_err-name-clause-err : goal.returns-in_err-name-clause-err
returns-in_err-name-clause-err c =
    let l = c.members in
    on_err c.from_residual.result (l.invariant.3 ∙ ap (converted (members_after l.invariant.1)) (members_no_key (value 126) l.invariant.0 l.reader c.in_err-name.ensures.value))

pub returns-in_err-leaf-clause-err : goal.returns-in_err-leaf-clause-err
returns-in_err-leaf-clause-err c =
    let l = c.members in
    let k = c.in-Some.name.now in
    let s = c.next_key.new.self in
    let named : read_key l.reader ≡ Some (Some k, s) = grind arith in
    on_err c.from_residual-in_err-leaf.result (l.invariant.3 ∙ member_turn (value 126) l.invariant.1 l.invariant.0 k l.reader s None named c.in_err-leaf.ensures.err)

pub members-preserved : goal.members-preserved
members-preserved c =
    let p = value 126 in
    let l = c.members in
    let n = l.invariant.0 in
    let old = l.invariant.1 in
    let k = c.in-Some.name.now in
    let s = c.next_key.new.self in
    let named : read_key l.reader ≡ Some (Some k, s) = grind arith in
    let done = c.in_ok-leaf.ensures in
    let d = done.ok.data_read in
    let r = c.read_leaf.new.reader in
    let less = read_key-shorter l.reader (Some k) s named in
    let lesser = done.shorter in (
      n - 1,
      put k d old,
      omega (arith, l.invariant.2),
      l.invariant.3 ∙ member_turn p old n k l.reader s (Some (d, r)) named done.ok.reads,
      c.keep.ensures.kept d old done.ok.is l.invariant.4,
      c.keep.ensures.sized,
    )

pub returns-clause-ok : goal.returns-clause-ok
returns-clause-ok c =
    let l = c.members in
    record { members_read = l.invariant.1; reads = l.invariant.3 ∙ ap (converted (members_after l.invariant.1)) (members_end (value 126) l.invariant.0 l.reader c.next_key.new.self l.invariant.2 (grind arith)); are = l.invariant.4 }
