-- A journal that says nothing. Only this crate's proofs cite this.
use Rattle.std.specs.Prelude.{◌≡◌, []}
use Rattle.esm_journal_state.specs.SaidLists.{SaidLists}

-- neither of fates nor of tries nor of windows
pub record SaysNothing (said : SaidLists) : Type 0 where
  pub fates : said.fates ≡ []
  pub tries : said.tries ≡ []
  pub states : said.states ≡ []
  pub window_tries : said.window_tries ≡ []
