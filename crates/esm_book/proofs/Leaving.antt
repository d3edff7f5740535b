-- What both disks leave since a moment before they were opened.
use Rattle.std.proofs.Common.{◌≡◌, ℕ, Bool, true, false, if◌then◌else◌, List, ◌++◌, reverse, refl, sym, subst, ◌∙◌}
use Rattle.esm_io.specs.Images.{Only}
use Rattle.esm_io.specs.Meanings.{DiskMeaning, DestMeaning}
use Rattle.esm_io.proofs.Leaving.{goes_on}
use Rattle.esm_journal.specs.File.{header_of, IsFile}
use Rattle.esm_journal.specs.Pair.{IsSpare, first_disk, second_disk}
use Rattle.esm_journal.specs.Reads.{IsOnlyRead}
use Rattle.esm_book.specs.Decided.{written_of}
use Rattle.esm_book.specs.Meanings.{CoreMeaning}
use Rattle.esm_book.specs.Growth.{HoldsFront, OpensToFront}
use Rattle.esm_book.specs.State.{DurableState, in_hand, IsKept}
use Rattle.esm_book.proofs.Lists.{clash}
use Rattle.esm_book.proofs.Fronts.{holds_none}
use Rattle.esm_book.proofs.Delivering.{told_front}
use Rattle.esm_book.proofs.Growing.{OpensBeside}

module _ {C E D T : Type 0} (k : CoreMeaning C E) (m : DiskMeaning D) (n : DestMeaning T) (s : DurableState C D T) (law : OpensBeside) (kept : IsKept k m n s) where
  -- the entries of the history, and the one in hand
  abbrev pub begun : List E
  begun = reverse (k.history s.core) ++ in_hand s.trouble (k.owed s.core)

  abbrev pub Opens : List ℕ → List ℕ → Type 0
  Opens one other = OpensToFront k n s.found.epoch s.found.payloads s.found_dest s.dest begun one other

  opens_from : (used spare : D) → IsOnlyRead m used s.found.used → IsOnlyRead m spare s.found.spare → m.honest used ≡ true → m.honest spare ≡ true
      → Only (m.content used) (m.image used) → Only (m.content spare) (m.image spare)
      → (one other : List ℕ) → m.since s.pair.used (m.moment used) one → m.since s.pair.spare (m.moment spare) other → Opens one other
  opens_from used spare read read_spare h1 h2 only only_spare one other was was_other =
      let g1 = read.honesty ∙ h1 in
      let g2 = read_spare.honesty ∙ h2 in
      let opened = kept.found_kept g1 g2 kept.found_up in
      let run = goes_on m.moment m.since used s.found.used s.pair.used (m.image used) (HoldsFront k s.found.epoch s.found.payloads begun) (HoldsFront k s.found.epoch s.found.payloads begun)
      (read.any_moment h1) (kept.grown.appended.images g1 g2)
      (λ left now. holds_none k s.found.epoch s.found.payloads begun left (subst (IsFile (header_of 2) s.found.epoch s.found.payloads) (read.same h1 ∙ sym (only left now)) opened.file))
      (λ left held. held) in
      let held = run.each one was in
      let now = (read_spare.any_moment h2).each other (subst (λ d. m.since d (m.moment spare) other) kept.grown.appended.spare was_other) in
      record {
        front = held.front;
        rest = held.rest;
        split = held.split;
        opens = law (header_of 2) s.found.epoch (s.found.payloads ++ written_of k.payload held.front) one other refl held.file
            (subst (IsSpare (header_of 2) s.found.epoch) (read_spare.same h2 ∙ sym (only_spare other now)) opened.beside);
        delivered = told_front k n s.found_dest s.dest held.front held.rest begun held.split kept.grown.delivered.told;
      }

  other_order : (one other : List ℕ) → Opens other one → Opens one other
  other_order one other opens = record { front = opens.front; rest = opens.rest; split = opens.split; opens = (opens.opens.1, opens.opens.0); delivered = opens.delivered }

  in_order : (first second : D) (swapped now_swapped : Bool) → now_swapped ≡ swapped
      → IsOnlyRead m first (if swapped then s.found.spare else s.found.used) → IsOnlyRead m second (if swapped then s.found.used else s.found.spare)
      → m.honest first ≡ true → m.honest second ≡ true → Only (m.content first) (m.image first) → Only (m.content second) (m.image second)
      → (one other : List ℕ) → m.since (if now_swapped then s.pair.spare else s.pair.used) (m.moment first) one → m.since (if now_swapped then s.pair.used else s.pair.spare) (m.moment second) other → Opens one other
  in_order first second false false same read read_second h1 h2 only only_second one other was was_other = opens_from first second read read_second h1 h2 only only_second one other was was_other
  in_order first second true true same read read_second h1 h2 only only_second one other was was_other = other_order one other (opens_from second first read_second read h2 h1 only_second only other one was_other was)
  in_order first second false true same read read_second h1 h2 only only_second one other was was_other = absurd (clash same)
  in_order first second true false same read read_second h1 h2 only only_second one other was was_other = absurd (clash (sym same))

  pub opens_since : (first second : D) → IsOnlyRead m first (first_disk s.found) → IsOnlyRead m second (second_disk s.found)
      → m.honest first ≡ true → m.honest second ≡ true → Only (m.content first) (m.image first) → Only (m.content second) (m.image second)
      → (one other : List ℕ) → m.since (first_disk s.pair) (m.moment first) one → m.since (second_disk s.pair) (m.moment second) other → Opens one other
  opens_since first second read read_second = in_order first second s.found.swapped s.pair.swapped kept.grown.appended.swapped read read_second
