use Rattle.std.proofs.Common.{◌≡◌, arith, pos}
use Rattle.jiff_core.proofs.SignedLemmas.{signed_arith}
use Rattle.jiff_core.proofs.DateLemmas.{civil}
use Rattle.jiff_core.specs.Date.{epoch_day}
use Rattle.esm_event.proofs.CalendarLemmas.{IsDateOf-days_from_civil}
use Rattle.esm_event.proofs.dates.date_of.Goals as goal

pub returns-clause-year : goal.returns-clause-year
returns-clause-year c =
    let d = c.from_days_since_min.result in
    let day : epoch_day d ≡ pos c.args.day = omega (arith, signed_arith, c.from_days_since_min.ensures) in
    (IsDateOf-days_from_civil d.year d.month d.day c.args.day (civil d) day).year_is

pub returns-clause-month : goal.returns-clause-month
returns-clause-month c =
    let d = c.from_days_since_min.result in
    let day : epoch_day d ≡ pos c.args.day = omega (arith, signed_arith, c.from_days_since_min.ensures) in
    (IsDateOf-days_from_civil d.year d.month d.day c.args.day (civil d) day).month_is

pub returns-clause-day : goal.returns-clause-day
returns-clause-day c =
    let d = c.from_days_since_min.result in
    let day : epoch_day d ≡ pos c.args.day = omega (arith, signed_arith, c.from_days_since_min.ensures) in
    (IsDateOf-days_from_civil d.year d.month d.day c.args.day (civil d) day).day_is
