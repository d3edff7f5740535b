use Rattle.std.proofs.Common.{◌∙◌, ◌++◌, ◌∷◌, [], List, ap}
use Rattle.esm_model.specs.Records.{Record}
use Rattle.esm_ingest.specs.declared.group.Group.{Group}
use Rattle.esm_ingest.proofs.Groups.{first_record, index_more}
use Rattle.esm_ingest.proofs.group.push_group.Goals as goal

pub returns-clause-index : goal.returns-clause-index
returns-clause-index c = λ n.
    let last : Group = record { shard = c.shard-shard.result; records = c.push.new.self } in
    index_more c.args.groups.now.items last c.push-2.new.self.items c.args.item.shard n c.requires c.in_ok-push-2.ensures.items c.shard-shard.ensures

pub returns-clause-groups : goal.returns-clause-groups
returns-clause-groups c =
    let last : Group = record { shard = c.shard-shard.result; records = c.push.new.self } in
    first_record c.args.groups.now.items c.args.item last c.push-2.new.self.items c.requires c.in_ok-push-2.ensures.items c.shard-shard.ensures
    (c.in_ok-push.ensures.items ∙ ap (λ (xs : List Record). xs ++ c.args.item ∷ []) c.new-records.ensures.items)
