-- The loop that reads the entries of a file.
use Rattle.std.proofs.Common.{◌≡◌, ℕ, ◌+◌, ◌<◌, ◌≤◌, true, List, [], ◌∷◌, ◌++◌, length, drop, arith, refl, sym, ap, ◌∙◌, append_assoc}
use Rattle.esm_model.specs.declared.limits.TheConstants.{MAX_PAYLOAD}
use Rattle.esm_io.specs.Meanings.{DiskMeaning}
use Rattle.esm_journal.specs.File.{entry, entries, end_of, AreShort, Damaged, read_from}
use Rattle.esm_journal.specs.Ahead.{IsAhead}
use Rattle.esm_journal.specs.Reads.{IsOnlyRead}
use Rattle.esm_journal.specs.declared.ahead.Ahead.{Ahead}
use Rattle.esm_journal.proofs.Files.{all_preceded, read_entries}
use Rattle.esm_journal.proofs.Runs.{reads_on}
use Rattle.esm_journal.proofs.Written.{entries_push, end_push, short_push}

-- so many payloads are read, up to this place
pub record HasRead {D : Type 0} (m : DiskMeaning D) (size : ℕ) (start now : D) (payloads : List (List ℕ)) (place : ℕ) (ahead : Ahead) : Type 0 where
  pub end : place ≡ end_of payloads
  pub within : place < size
  pub only_read : IsOnlyRead m start now
  pub so_far : m.honest start ≡ true → drop 17 (m.content start) ≡ entries payloads ++ drop place (m.content start)
  pub short : AreShort payloads
  pub ahead_is : IsAhead m now ahead

all_damaged : (payloads : List (List ℕ)) (place : ℕ) → all_preceded payloads (Damaged place) ≡ Damaged place
all_damaged [] place = refl
all_damaged (payload ∷ payloads) place = ap (λ o. all_preceded (payload ∷ []) o) (all_damaged payloads place)

module _ {D : Type 0} (m : DiskMeaning D) (size : ℕ) (start : D) where
  -- one entry more
  pub one_read : (now new : D) (payloads : List (List ℕ)) (payload : List ℕ) (place next : ℕ) (before ahead : Ahead) → HasRead m size start now payloads place before
      → IsOnlyRead m now new
      → (m.honest now ≡ true → drop place (m.content now) ≡ 1 ∷ [] ++ entry payload ++ drop (place + 5 + length payload) (m.content now))
      → next ≡ place + 5 + length payload → place + 5 + length payload < size → length payload ≤ MAX_PAYLOAD → IsAhead m new ahead
      → HasRead m size start new (payloads ++ payload ∷ []) next ahead
  one_read now new payloads payload place next before ahead so_far read whole is_next within short ahead_is = record {
    end = omega (arith, is_next, so_far.end, end_push payloads payload);
    within = omega (arith, is_next, within);
    only_read = reads_on m start now new so_far.only_read read;
    so_far = λ h. more h;
    short = short_push payloads payload so_far.short short;
    ahead_is = ahead_is;
  }
    where
      more : m.honest start ≡ true → drop 17 (m.content start) ≡ entries (payloads ++ payload ∷ []) ++ drop next (m.content start)
      more h =
          let same = so_far.only_read.same h in
          let behind : drop place (m.content start) ≡ 1 ∷ [] ++ entry payload ++ drop next (m.content start) =
          ap (drop place) (sym same) ∙ whole (so_far.only_read.honesty ∙ h) ∙ ap (λ l. 1 ∷ [] ++ entry payload ++ drop (place + 5 + length payload) l) same
          ∙ ap (λ n. 1 ∷ [] ++ entry payload ++ drop n (m.content start)) (sym is_next) in
          so_far.so_far h ∙ ap (λ l. entries payloads ++ l) behind
          ∙ sym (append_assoc (entries payloads) (1 ∷ [] ++ entry payload) (drop next (m.content start)))
          ∙ ap (λ l. l ++ drop next (m.content start)) (sym (entries_push payloads payload ∙ append_assoc (entries payloads) (1 ∷ []) (entry payload)))

  -- the entry that comes next is damaged, and so is the file
  pub damaged_next : (now : D) (payloads : List (List ℕ)) (place damage : ℕ) (ahead : Ahead) → HasRead m size start now payloads place ahead
      → (m.honest now ≡ true → (epoch : ℕ) → read_from epoch place 0 (drop place (m.content now)) ≡ Damaged damage)
      → m.honest start ≡ true → (epoch : ℕ) → read_from epoch 17 0 (drop 17 (m.content start)) ≡ Damaged damage
  damaged_next now payloads place damage ahead so_far bad h epoch =
      ap (read_from epoch 17 0) (so_far.so_far h)
      ∙ read_entries epoch 17 payloads (drop place (m.content start)) so_far.short
      ∙ ap (all_preceded payloads)
      (ap (λ n. read_from epoch n 0 (drop place (m.content start))) (sym so_far.end)
      ∙ ap (λ l. read_from epoch place 0 (drop place l)) (sym (so_far.only_read.same h))
      ∙ bad (so_far.only_read.honesty ∙ h) epoch)
      ∙ all_damaged payloads damage
