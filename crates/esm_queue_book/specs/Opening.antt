-- What opening a queue's book finds in its journal.
use Rattle.std.specs.Prelude.{◌≡◌, ℕ, List, reverse, None, true}
use Rattle.esm_journal.specs.Pair.{PairState}
use Rattle.esm_model.specs.declared.config.Config.{Config}
use Rattle.esm_model.specs.declared.book.BookOpen.{BookOpen}
use Rattle.esm_model.specs.declared.book.BookOpen.TheVariants.{BadPayload, OutOfMemory}
use Rattle.esm_journal_state.specs.declared.error.SaysError.TheVariants as error
use Rattle.esm_journal_state.specs.Bad.{IsFirstBad}
use Rattle.esm_journal_state.specs.Meaning.{history, are_good}
use Rattle.esm_journal_state.specs.SaidLists.{SaidLists, IsInOrder}
use Rattle.esm_journal_state.specs.Tells.{Tells}
use Rattle.esm_queue_core.specs.CoreView.{CoreView, new_setting, new_view}
use Rattle.esm_queue_book.specs.Books.{BookState}

-- A core in which no message came. No payload is bad, and the found deletions are those that the payloads name, each place
-- once and in rising order.
pub record IsCoreOver (config : Config) (calls visibility : ℕ) (payloads : List (List ℕ)) (v : CoreView) : Type 0 where
  pub good : are_good (reverse payloads) ≡ true
  pub said : SaidLists
  pub tells : Tells said (history (reverse payloads))
  pub order : IsInOrder said
  pub is : v ≡ new_view (new_setting config calls visibility said.deletions)

-- a book over this journal with such a core
pub record IsOpened {D : Type 0} (config : Config) (calls visibility : ℕ) (pair : PairState D) (b : BookState D) : Type 0 where
  pub core : IsCoreOver config calls visibility pair.payloads b.core
  pub pair_is : b.pair ≡ pair
  pub found : b.found ≡ pair
  pub trouble : b.trouble ≡ None

-- the payload with the index is the first that is bad for a book
abbrev pub IsNotOpened : List (List ℕ) → BookOpen → Type 0
IsNotOpened payloads (BadPayload i) = IsFirstBad payloads (error.BadPayload i)
IsNotOpened payloads OutOfMemory = Unit {0}
