-- What a core over its devices keeps from call to call.
use Rattle.std.proofs.Common.{◌≡◌, false, List, [], ◌++◌, Option, Some, None, reverse, refl, sym, ap, subst, ◌∙◌}
use Rattle.esm_io.specs.Meanings.{DiskMeaning, DestMeaning}
use Rattle.esm_journal.specs.Pair.{PairState, PairKeepsWhileUp}
use Rattle.esm_model.specs.declared.book.Change.{Change}
use Rattle.esm_model.specs.declared.book.Trouble.{Trouble}
use Rattle.esm_model.specs.declared.book.Trouble.TheVariants.{Changed}
use Rattle.esm_book.specs.Decided.{written_of, added}
use Rattle.esm_book.specs.Meanings.{CoreMeaning}
use Rattle.esm_book.specs.Answers.{IsSameDest}
use Rattle.esm_book.specs.Growth.{HasGrown}
use Rattle.esm_book.specs.State.{is_disk, is_dest, in_hand, in_delivery, IsSettled, IsKept}
use Rattle.esm_book.proofs.Lists.{added_is, oldest_first}
use Rattle.esm_book.proofs.Appending.{OnlyNow}
use Rattle.esm_book.proofs.Growing.{grown_none, grown_then, grown_noted}

module _ {C E D T : Type 0} (k : CoreMeaning C E) (m : DiskMeaning D) (n : DestMeaning T) where
  abbrev pub Kept : C → PairState D → T → Option Trouble → PairState D → T → Type 0
  Kept core pair dest trouble found found_dest = IsKept k m n (record { core = core; pair = pair; dest = dest; trouble = trouble; found = found; found_dest = found_dest })

  -- as it is made
  pub kept_first : OnlyNow m → (core : C) (pair : PairState D) (dest : T) → k.history core ≡ [] → k.owed core ≡ [] → pair.down ≡ false → n.failed dest ≡ false → PairKeepsWhileUp m pair
      → Kept core pair dest None pair dest
  kept_first only_now core pair dest empty settled up usable kept = record {
    grown = subst (λ h. HasGrown k m n pair pair dest dest (reverse h) [] []) (sym empty)
        (grown_none k m n only_now pair pair dest dest up usable kept refl (record { lines = refl; failed = refl; honesty = refl; faults = refl; moment = refl; images = λ _ _ since. since }));
    settled = settled;
    pair_down = up;
    dest_failed = usable;
    found_up = up;
    found_usable = usable;
    found_kept = kept;
  }

  -- after a call that wrote something, or nothing
  pub kept_after : (core core' : C) (pair pair' found : PairState D) (dest dest' found_dest : T) (was now trouble : Option Trouble) (paid : List E)
      → was ≡ None → Kept core pair dest was found found_dest → now ≡ trouble
      → k.history core' ≡ reverse paid ++ k.history core → HasGrown k m n pair pair' dest dest' paid (in_hand trouble (k.owed core')) (in_delivery trouble (k.owed core'))
      → IsSettled trouble (k.owed core') → pair'.down ≡ is_disk trouble → n.failed dest' ≡ is_dest trouble → Kept core' pair' dest' now found found_dest
  kept_after core core' pair pair' found dest dest' found_dest was now trouble paid none before now_is history grown settled down failed =
      let kept = subst (λ (t : Option Trouble). Kept core pair dest t found found_dest) none before in
      subst (λ (t : Option Trouble). Kept core' pair' dest' t found found_dest) (sym now_is)
      (record {
        grown = subst (λ h. HasGrown k m n found pair' found_dest dest' h (in_hand trouble (k.owed core')) (in_delivery trouble (k.owed core'))) (sym (oldest_first (k.history core) (k.history core') paid history))
            (grown_then k m n found pair pair' found_dest dest dest' (reverse (k.history core)) paid (in_hand trouble (k.owed core')) (in_delivery trouble (k.owed core')) kept.grown grown);
        settled = settled;
        pair_down = down;
        dest_failed = failed;
        found_up = kept.found_up;
        found_usable = kept.found_usable;
        found_kept = kept.found_kept;
      })

  -- after a call that left it up
  pub kept_up : (core core' : C) (pair pair' found : PairState D) (dest dest' found_dest : T) (was : Option Trouble) (paid : List E)
      → was ≡ None → Kept core pair dest was found found_dest
      → k.history core' ≡ reverse paid ++ k.history core → HasGrown k m n pair pair' dest dest' paid [] []
      → k.owed core' ≡ [] → pair'.down ≡ false → n.failed dest' ≡ false → Kept core' pair' dest' was found found_dest
  kept_up core core' pair pair' found dest dest' found_dest was paid none before history grown settled up usable =
      kept_after core core' pair pair' found dest dest' found_dest was was None paid none before none history grown settled up usable

  -- after a change
  pub kept_changed : (core : C) (pair found : PairState D) (dest found_dest : T) (was now : Option Trouble) (change : Change)
      → was ≡ None → Kept core pair dest was found found_dest → now ≡ Some (Changed change) → Kept core pair dest now found found_dest
  kept_changed core pair found dest found_dest was now change none before now_is =
      let kept = subst (λ (t : Option Trouble). Kept core pair dest t found found_dest) none before in
      subst (λ (t : Option Trouble). Kept core pair dest t found found_dest) (sym now_is)
      (record {
        grown = kept.grown;
        settled = kept.settled;
        pair_down = kept.pair_down;
        dest_failed = kept.dest_failed;
        found_up = kept.found_up;
        found_usable = kept.found_usable;
        found_kept = kept.found_kept;
      })

  -- after a call of which nothing is written
  pub kept_noted : (core core' : C) (pair found : PairState D) (dest found_dest : T) (trouble : Option Trouble) (noted : List E)
      → Kept core pair dest trouble found found_dest
      → k.history core' ≡ reverse noted ++ k.history core → written_of k.payload noted ≡ [] → written_of k.line noted ≡ [] → k.owed core' ≡ k.owed core
      → Kept core' pair dest trouble found found_dest
  kept_noted core core' pair found dest found_dest trouble noted kept history no_payload no_line same = record {
    grown = subst (λ h. HasGrown k m n found pair found_dest dest h (in_hand trouble (k.owed core')) (in_delivery trouble (k.owed core'))) (sym (oldest_first (k.history core) (k.history core') noted history))
        (subst (λ o. HasGrown k m n found pair found_dest dest (reverse (k.history core) ++ noted) (in_hand trouble o) (in_delivery trouble o)) (sym same)
        (grown_noted k m n found pair found_dest dest (reverse (k.history core)) noted (in_hand trouble (k.owed core)) (in_delivery trouble (k.owed core)) no_payload no_line kept.grown));
    settled = subst (IsSettled trouble) (sym same) kept.settled;
    pair_down = kept.pair_down;
    dest_failed = kept.dest_failed;
    found_up = kept.found_up;
    found_usable = kept.found_usable;
    found_kept = kept.found_kept;
  }

  -- What is known of a call on one that was up.
  module _ (core : C) (pair found : PairState D) (dest found_dest : T) (was : Option Trouble) (before : Kept core pair dest was found found_dest) (none : was ≡ None) where
    -- nothing was added; room may have been made
    pub grown_still : OnlyNow m → (core' : C) (pair' : PairState D) (dest' : T) → core' ≡ core → pair' ≡ record pair { room = pair'.room } → IsSameDest n dest dest'
        → HasGrown k m n pair pair' dest dest' (added (k.history core) (k.history core')) [] []
    grown_still only_now core' pair' dest' same room same_dest =
        subst (λ l. HasGrown k m n pair pair' dest dest' l [] []) (sym (added_is [] (k.history core) (k.history core') (ap k.history same)))
        (grown_none k m n only_now pair pair' dest dest' (before.pair_down ∙ ap is_disk none) (before.dest_failed ∙ ap is_dest none) before.grown.appended.kept room same_dest)
