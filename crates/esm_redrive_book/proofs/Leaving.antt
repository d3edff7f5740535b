-- What a crash leaves of the dead-letter file, by itself and beside the journal.
use Rattle.std.proofs.Common.{◌≡◌, ℕ, List, [], ◌++◌, map, refl, sym, ap, ◌∙◌, subst, inl, inr, append_assoc, append-nil, Option, Some}
use Rattle.std.proofs.lemmas.List.{map-append}
use Rattle.std.proofs.lemmas.List.Elements.{filter_map-append}
use Rattle.std.proofs.Math.Nat.{le_refl}
use Rattle.esm_io.specs.Meanings.{DiskMeaning, DestMeaning}
use Rattle.esm_book.specs.Decided.{written_of}
use Rattle.esm_io.specs.Told.{Grows}
use Rattle.esm_book.specs.Growth.{HasDelivered, LeavesFronts, OpensToFront, ReadsFront}
use Rattle.esm_book.specs.State.{IsKept}
use Rattle.esm_redrive_core.specs.declared.decisions.RedriveEntry.{RedriveEntry}
use Rattle.esm_redrive_book.specs.Books.{BookState, line_in, redrive_meaning}
use Rattle.esm_redrive_book.specs.Keeping.{entries_left, lines_left}
use Rattle.esm_redrive_book.specs.Letters.{LeavesLetters, OpensWithLetters, LinesStandFirst}

module _ {D T : Type 0} (m : DiskMeaning D) (n : DestMeaning T) (b : BookState D T) (kept : IsKept redrive_meaning m n b) where
  pub leaves_letters : LeavesLetters n b
  leaves_letters honest held told only left since =
      let taken = kept.grown.delivered.images honest held told in
      elim (taken.images (n.moment b.found_dest) left (le_refl (n.moment b.found_dest)) since) [
        | inl before ↦ record { front = []; rest = map n.sends (written_of line_in (lines_left b)); split = refl; reads = subst (λ (lines : List (List ℕ)). n.reads_as left lines) (sym (append-nil held)) (only left before) }
        | inr front ↦ front
      ]

  -- the lines of all entries are those of the first ones, and then those of the others
  lines_part : (front rest entries : List RedriveEntry) → front ++ rest ≡ entries → map n.sends (written_of line_in entries) ≡ map n.sends (written_of line_in front) ++ map n.sends (written_of line_in rest)
  lines_part front rest entries split =
      ap (λ (es : List RedriveEntry). map n.sends (written_of line_in es)) (sym split)
      ∙ (ap (map n.sends) (filter_map-append line_in front rest)
      ∙ map-append n.sends (written_of line_in front) (written_of line_in rest))

  regrouped : (held a c d : List (List ℕ)) → (held ++ (a ++ c)) ++ d ≡ held ++ (a ++ (c ++ d))
  regrouped held a c d = append_assoc held (a ++ c) d ∙ ap (λ (xs : List (List ℕ)). held ++ xs) (append_assoc a c d)

  -- the journal opens to the first of the entries, and the file is read as the lines of all of them and perhaps more
  both : (held lines : List (List ℕ)) (one other left : List ℕ) → OpensToFront redrive_meaning n b.found.epoch b.found.payloads b.found_dest b.dest (entries_left b) one other
      → ReadsFront n.reads_as (held ++ map n.sends (written_of line_in (entries_left b))) lines left → OpensWithLetters n b.found.epoch b.found.payloads held (entries_left b) one other left
  both held lines one other left opens reads =
      let a = map n.sends (written_of line_in opens.front) in
      let c = map n.sends (written_of line_in opens.rest) in
      record {
        front = opens.front;
        rest = opens.rest;
        split = opens.split;
        opens = opens.opens;
        more = c ++ reads.front;
        reads = subst (λ (xs : List (List ℕ)). n.reads_as left xs) (regrouped held a c reads.front)
            (subst (λ (xs : List (List ℕ)). n.reads_as left ((held ++ xs) ++ reads.front)) (lines_part opens.front opens.rest (entries_left b) opens.split) reads.reads);
      }

  pub lines_stand_first : LeavesFronts redrive_meaning m n b.found b.pair b.found_dest b.dest (entries_left b) → LinesStandFirst m n b b.dest
  lines_stand_first leaves honest spare_honest dest_honest held told only one other left since spare_since now =
      both held _ one other left (leaves honest spare_honest one other since spare_since) (kept.grown.delivered.durable dest_honest held told only left now)

  -- and the lines stay
  pub lines_stay_first : (later : T) (entries tried : List RedriveEntry) → LeavesFronts redrive_meaning m n b.found b.pair b.found_dest b.dest (entries_left b) → HasDelivered redrive_meaning n b.dest later entries tried → LinesStandFirst m n b later
  lines_stay_first later entries tried leaves more honest spare_honest dest_honest held told only one other left since spare_since now =
      let delivered = kept.grown.delivered in
      let opens = leaves honest spare_honest one other since spare_since in
      let all = held ++ map n.sends (written_of line_in (entries_left b)) in
      let told_now : n.lines b.dest ≡ Some all = subst (λ (o : Option (List (List ℕ))). Grows o (n.lines b.dest) (map n.sends (written_of line_in (entries_left b)))) told delivered.told in
      elim ((more.images (delivered.honesty ∙ dest_honest) all told_now).images (n.moment b.dest) left (le_refl (n.moment b.dest)) now) [
        | inl before ↦ both held _ one other left opens (delivered.durable dest_honest held told only left before)
        | inr front ↦ both held _ one other left opens front
      ]
