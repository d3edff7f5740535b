use Rattle.std.proofs.Common.{refl}
use Rattle.serde_json.specs.View.{members_view, view}
use Rattle.esm_config.specs.Mapping.{fields_among, judge_dynamo}
use Rattle.esm_config.specs.declared.sources.Sources.TheVariants.{DynamoDb}
use Rattle.esm_config.proofs.Telling.{of_object, tells_bad, tells_dynamo, tells_ok}
use Rattle.esm_config.proofs.from_json.read_dynamo.Goals as goal

pub returns-clause-ok : goal.returns-clause-ok
returns-clause-ok c =
    tells_ok c.judged.result (judge_dynamo (view c.args.value.now))
    (of_object (fields_among DynamoDb (view c.args.value.now)) (view c.args.value.now) (members_view c.in-Some.members.now.entries) c.judged.result c.in-Some.ensures c.judged.ensures)

pub returns-clause-given : goal.returns-clause-given
returns-clause-given c =
    tells_dynamo c.judged.result (fields_among DynamoDb (view c.args.value.now)) (members_view c.in-Some.members.now.entries) refl c.judged.ensures

pub returns-clause-bad : goal.returns-clause-bad
returns-clause-bad c =
    tells_bad c.judged.result (judge_dynamo (view c.args.value.now))
    (of_object (fields_among DynamoDb (view c.args.value.now)) (view c.args.value.now) (members_view c.in-Some.members.now.entries) c.judged.result c.in-Some.ensures c.judged.ensures)
