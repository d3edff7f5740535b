use Rattle.std.proofs.Common.{◌∙◌, ap, option_map}
use Rattle.serde_json.specs.Data.{boolean, member}
use Rattle.serde_json.specs.View.{view}
use Rattle.esm_config.specs.Member.{and_members, members_of}
use Rattle.esm_config.specs.Names.{name_of}
use Rattle.esm_config.specs.Text.{on_failure, position, seconds, seconds_or_none, timestamp, whole, whole_or_none}
use Rattle.esm_config.specs.declared.param.Param.TheVariants as param
use Rattle.esm_config.proofs.Members.{and_with_some, at_some, at_value, eight_more}
use Rattle.esm_config.proofs.to_json.stream_settings.Goals as goal

pub returns : goal.returns
returns c =
    let k = c.args.config.now in
    let b = members_of c.args.before.items in
    let m1 = members_of c.in_ok-m1.m1.items in
    let m2 = members_of c.in_ok-m2.m2.items in
    let m3 = members_of c.in_ok-m3.m3.items in
    let m4 = members_of c.in_ok-m4.m4.items in
    let m5 = members_of c.in_ok-m5.m5.items in
    let m6 = members_of c.in_ok-m6.m6.items in
    let m7 = members_of c.in_ok-m7.m7.items in
    let m8 = members_of c.in_ok-with_some.field-0.items in
    let e1 = at_value b m1 param.StartingPosition (view c.in_ok-position.field-0) (position k.start) c.in_ok-m1.ensures c.in_ok-position.ensures in
    let e2 = at_some m1 m2 param.StartingPositionTimestamp (option_map view c.timestamp.result) (timestamp k.start) c.in_ok-m2.ensures c.timestamp.ensures in
    let e3 = at_value m2 m3 param.ParallelizationFactor (view c.from.result) (whole k.factor) c.in_ok-m3.ensures c.from.ensures in
    let e4 = at_value m3 m4 param.MaximumRetryAttempts (view c.whole_or_none-retries.result) (whole_or_none k.retries) c.in_ok-m4.ensures c.whole_or_none-retries.ensures in
    let e5 = at_value m4 m5 param.MaximumRecordAgeInSeconds (view c.seconds_or_none-age.result) (seconds_or_none k.age_ms) c.in_ok-m5.ensures c.seconds_or_none-age.ensures in
    let e6 = at_value m5 m6 param.BisectBatchOnFunctionError (view c.from-2.result) (boolean k.bisect) c.in_ok-m6.ensures c.from-2.ensures in
    let e7 = at_value m6 m7 param.TumblingWindowInSeconds (view c.seconds.result) (seconds k.tumbling_ms) c.in_ok-m7.ensures c.seconds.ensures in
    let e8 = at_some m7 m8 param.DestinationConfig (option_map view c.in_ok-on_failure.on_failure) (option_map on_failure k.destination) c.in_ok-with_some.ensures c.in_ok-on_failure.ensures in
    eight_more b m1 m2 m3 m4 m5 m6 m7 m8 _ _ _ _ _ _ _ _ e1 e2 e3 e4 e5 e6 e7 e8
    ∙ ap (λ m. and_members b (member (name_of param.StartingPosition) (position k.start) m)) (and_with_some param.StartingPositionTimestamp (timestamp k.start) _)
