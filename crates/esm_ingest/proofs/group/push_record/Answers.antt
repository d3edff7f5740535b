use Rattle.std.proofs.Common.{◌≡◌, ◌<◌, length, vec_len, rules, arith, refl}
use Rattle.esm_ingest.specs.declared.group.Group.{Group}
use Rattle.esm_ingest.proofs.Groups.{index_within, next_record}
use Rattle.esm_ingest.proofs.group.push_record.Goals as goal

pub index_mut-requires : goal.index_mut-requires
index_mut-requires c =
    let low : c.args.at < length c.args.groups.now.items = index_within c.args.groups.now.items c.args.item.shard c.args.at c.requires in
    let all : vec_len c.args.groups.now ≡ length c.args.groups.now.items = search rules in
    omega (arith, low, all)

pub returns-clause-names : goal.returns-clause-names
returns-clause-names c =
    let now : Group = record { shard = c.index_mut.result.now.shard; records = c.push.new.self } in
    (next_record c.args.groups.now.items c.args.at c.args.item c.index_mut.result.now now c.requires c.index_mut.ensures.value refl c.in_ok-push.ensures.items).1

pub returns-clause-groups : goal.returns-clause-groups
returns-clause-groups c =
    let now : Group = record { shard = c.index_mut.result.now.shard; records = c.push.new.self } in
    (next_record c.args.groups.now.items c.args.at c.args.item c.index_mut.result.now now c.requires c.index_mut.ensures.value refl c.in_ok-push.ensures.items).0
