use Rattle.std.proofs.Common.{◌≡◌, List, length, Option, ap, sym, ◌∙◌, arith}
use Rattle.esm_model.specs.declared.config.Config.{Config}
use Rattle.esm_model.specs.Records.{Record}
use Rattle.esm_model.specs.declared.entry.Fate.{Fate}
use Rattle.esm_ledger.specs.declared.measure.Measure.{Measure}
use Rattle.esm_ledger.specs.Shard.{measure_at}
use Rattle.esm_ledger.specs.Measuring.{measures_of, open_of, last_of}
use Rattle.esm_ledger.proofs.Besides.{Stands, length_measures, length_open, lengths_told, windows_told, last_told, open_told}
use Rattle.esm_ledger.proofs.arriving.Arriving.new.Goals as goal

pub returns-clause-even : goal.returns-clause-even
returns-clause-even c =
    let rs = c.args.records.items in
    let config = c.args.config.now in
    record {
      measures = ap length (c.in_ok-beside.ensures.measures ∙ ap (λ (qs : List Record). measures_of config c.args.before qs) c.as_slice.ensures.value) ∙ length_measures config c.args.before rs;
      fates = c.requires.fates;
      landings = c.requires.landings;
      windows = (let e : length c.in_ok-beside.beside.windows.items ≡ length (open_of c.args.config.now c.args.before c.as_slice.result.now c.as_slice-2.result.now) = ap length c.in_ok-beside.ensures.windows in
          let n : length c.as_slice.result.now ≡ length c.args.records.items = ap length c.as_slice.ensures.value in
          let most = length_open config c.args.before c.as_slice.result.now c.as_slice-2.result.now in
          omega (arith, e, n, most));
    }

pub returns-clause-stand : goal.returns-clause-stand
returns-clause-stand c = λ s n first same before stand found landings.
    let rs = c.args.records.items in
    let fs = c.args.fates.items in
    let config = c.args.config.now in
    let b = c.args.before in
    let stands : Stands s n first c.args.before c.args.records.items = record { window = before; stand = stand } in
    let ms : c.in_ok-beside.beside.measures.items ≡ measures_of s.config c.args.before c.args.records.items =
    c.in_ok-beside.ensures.measures ∙ ap (λ (qs : List Record). measures_of config b qs) c.as_slice.ensures.value ∙ ap (λ (x : Config). measures_of x b rs) (sym same) in
    record {
      stand = stand;
      lengths = λ k r at. ap (λ (l : List Measure). (measure_at l k).length) ms ∙ lengths_told s b rs k r at;
      measured = λ k low. ap (λ (l : List Measure). (measure_at l k).window) ms ∙ windows_told s n first b rs stands k low;
      fates = found;
      landings = landings;
      windows = c.in_ok-beside.ensures.windows
          ∙ ap (λ (qs : List Record). open_of config b qs c.as_slice-2.result.now) c.as_slice.ensures.value
          ∙ ap (λ (gs : List (Option Fate)). open_of config b rs gs) c.as_slice-2.ensures.value
          ∙ ap (λ (x : Config). open_of x b rs fs) (sym same)
          ∙ open_told s n first b rs fs stands c.requires.fates found;
      last = c.in_ok-beside.ensures.last ∙ ap (λ (qs : List Record). last_of config b qs) c.as_slice.ensures.value ∙ ap (λ (x : Config). last_of x b rs) (sym same)
          ∙ last_told s n first b rs stands;
    }
