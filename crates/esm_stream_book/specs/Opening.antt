-- What opening a stream's book finds in its journal.
use Rattle.std.specs.Prelude.{◌≡◌, ℕ, List, reverse, None, true}
use Rattle.esm_journal.specs.Pair.{PairState}
use Rattle.esm_ledger.specs.Ledger.{opened_with}
use Rattle.esm_model.specs.declared.config.Config.{Config}
use Rattle.esm_model.specs.declared.book.BookOpen.{BookOpen}
use Rattle.esm_model.specs.declared.book.BookOpen.TheVariants.{BadPayload, OutOfMemory}
use Rattle.esm_journal_state.specs.declared.error.SaysError.TheVariants as error
use Rattle.esm_journal_state.specs.Bad.{IsFirstBad}
use Rattle.esm_journal_state.specs.Meaning.{history, are_good}
use Rattle.esm_journal_state.specs.SaidLists.{SaidLists, IsInOrder}
use Rattle.esm_journal_state.specs.Tells.{Tells}
use Rattle.esm_stream_core.specs.CoreView.{CoreView, new_view}
use Rattle.esm_stream_book.specs.Books.{BookState}

-- A core in which no record came. No payload is bad, and the found fates, tries, states and window tries are those that the
-- payloads name, in rising order.
pub record IsCoreOver (config : Config) (calls : ℕ) (payloads : List (List ℕ)) (v : CoreView) : Type 0 where
  pub good : are_good (reverse payloads) ≡ true
  pub said : SaidLists
  pub tells : Tells said (history (reverse payloads))
  pub order : IsInOrder said
  pub is : v ≡ new_view (opened_with config calls said)

-- a book over this journal and this destination with such a core
pub record IsOpened {D T : Type 0} (config : Config) (calls : ℕ) (pair : PairState D) (dest : T) (b : BookState D T) : Type 0 where
  pub core : IsCoreOver config calls pair.payloads b.core
  pub pair_is : b.pair ≡ pair
  pub dest_is : b.dest ≡ dest
  pub found : b.found ≡ pair
  pub found_dest : b.found_dest ≡ dest
  pub trouble : b.trouble ≡ None

-- the payload with the index is the first that is bad for a book
abbrev pub IsNotOpened : List (List ℕ) → BookOpen → Type 0
IsNotOpened payloads (BadPayload i) = IsFirstBad payloads (error.BadPayload i)
IsNotOpened payloads OutOfMemory = Unit {0}
