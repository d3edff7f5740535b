-- What a disk that failed leaves of a journal in two files, over any payloads.
use Rattle.std.proofs.Common.{◌≡◌, ◌∙◌, ◌≤◌, ℕ, ◌+◌, Bool, true, false, List, [], ◌∷◌, ◌++◌, length, ap, arith, inl, inr, subst, sym}
use Rattle.std.specs.Prelude.{Option, Some, None, if◌then◌else◌}
use Rattle.std.specs.List.{cons_option, filter_map}
use Rattle.std.proofs.lemmas.List.{length-append}
use Rattle.esm_io.specs.Meanings.{DiskMeaning}
use Rattle.esm_journal.specs.File.{Holding, header_of}
use Rattle.esm_journal.specs.Pair.{PairOpensTo, PairState, first_disk, second_disk}
use Rattle.esm_journal.specs.Stopped.{PairKeepsWhileDown, PairStillOpens}
use Rattle.esm_folder.specs.Upkeep.{AreHonest}
use Rattle.esm_runner.specs.Files.{FilesState}
use Rattle.esm_runner.specs.Headline.{PairStopped}
use Rattle.esm_runner.proofs.Payloads.{split_one}

-- two disks, in whichever order, open to the payloads from before and then to the first of these
pub record OpensToPart (epoch : ℕ) (before all : List (List ℕ)) (one other : List ℕ) : Type 0 where
  pub front : List (List ℕ)
  pub rest : List (List ℕ)
  pub split : front ++ rest ≡ all
  pub opens : PairOpensTo (header_of 2) epoch (before ++ front) one other

-- A pair went down since it was opened, while it had these payloads more. What a crash leaves since then opens to the first of
-- these and of those that were being written, one at most.
pub record HasGoneDown {D : Type 0} (m : DiskMeaning D) (f : FilesState D) (now : PairState D) (kept hand : List (List ℕ)) : Type 0 where
  pub honest : AreHonest m f.journal f.spare → (m.honest now.used ≡ true) × (m.honest now.spare ≡ true)
  pub honest_first : AreHonest m f.journal f.spare → (m.honest f.pair.used ≡ true) × (m.honest f.pair.spare ≡ true)
  pub down : now.down ≡ true
  pub epoch : now.epoch ≡ f.pair.epoch
  pub swapped : now.swapped ≡ f.pair.swapped
  pub payloads : now.payloads ≡ f.pair.payloads ++ kept
  pub few : length hand ≤ 1
  pub still : PairKeepsWhileDown m now
  pub leaves : m.honest f.pair.used ≡ true → m.honest f.pair.spare ≡ true → (one other : List ℕ) → m.since now.used (m.moment f.pair.used) one → m.since now.spare (m.moment f.pair.spare) other
      → OpensToPart f.pair.epoch f.pair.payloads (kept ++ hand) one other

-- at most one payload of each entry
pub filter_map_few : {X Y : Type 0} (h : X → Option Y) (xs : List X) → length (filter_map h xs) ≤ length xs
filter_map_few h [] = omega arith
filter_map_few {X} {Y} h (x ∷ xs) = at_first (h x) (filter_map_few h xs)
  where
    at_first : (o : Option Y) → length (filter_map h xs) ≤ length xs → length (cons_option o (filter_map h xs)) ≤ length (x ∷ xs)
    at_first None few = omega (arith, few)
    at_first (Some y) few = omega (arith, few)

-- what holds of images of the disk in use and of the other, in whichever order, holds of them in the order in which the disks were
-- handed in
pub in_order : {D : Type 0} (m : DiskMeaning D) (swapped : Bool) (used spare used' spare' : D) (P : List ℕ → List ℕ → Type 0)
    → ((one other : List ℕ) → m.since used' (m.moment used) one → m.since spare' (m.moment spare) other → P one other) → ((one other : List ℕ) → P one other → P other one)
    → (one other : List ℕ) → m.since (if swapped then spare' else used') (m.moment (if swapped then spare else used)) one → m.since (if swapped then used' else spare') (m.moment (if swapped then used else spare)) other
    → P one other
in_order m false used spare used' spare' P leaves turn one other since other_since = leaves one other since other_since
in_order m true used spare used' spare' P leaves turn one other since other_since = turn other one (leaves other one other_since since)

-- images of both disks in whichever order
in_turn : {D : Type 0} (m : DiskMeaning D) (swapped : Bool) (used spare used' spare' : D) (epoch : ℕ) (before all : List (List ℕ))
    → ((one other : List ℕ) → m.since used' (m.moment used) one → m.since spare' (m.moment spare) other → OpensToPart epoch before all one other)
    → (one other : List ℕ) → m.since (if swapped then spare' else used') (m.moment (if swapped then spare else used)) one → m.since (if swapped then used' else spare') (m.moment (if swapped then used else spare)) other
    → OpensToPart epoch before all one other
in_turn m swapped used spare used' spare' epoch before all leaves =
    in_order m swapped used spare used' spare' (OpensToPart epoch before all) leaves (λ x y o. record { front = o.front; rest = o.rest; split = o.split; opens = (o.opens.1, o.opens.0) })

-- what opens to the first payloads of a list does not open to one more than all of them
no_longer : (epoch other_epoch : ℕ) (before kept front more : List (List ℕ)) (payload : List ℕ) (one other : List ℕ) → front ++ more ≡ kept
    → PairOpensTo (header_of 2) other_epoch ((before ++ kept) ++ payload ∷ []) one other → PairOpensTo (header_of 2) epoch (before ++ front) one other → ⊥
no_longer epoch other_epoch before kept front more payload one other split longer short =
    let same : Holding other_epoch ((before ++ kept) ++ payload ∷ []) ≡ Holding epoch (before ++ front) = sym longer.0 ∙ short.0 in
    let lists : (before ++ kept) ++ payload ∷ [] ≡ before ++ front = cc in
    let as_long : length ((before ++ kept) ++ payload ∷ []) ≡ length (before ++ front) = ap length lists in
    let long = length-append (before ++ kept) (payload ∷ []) in
    let kept_is = length-append before kept in
    let front_is = length-append before front in
    let parts : length (front ++ more) ≡ length kept = ap length split in
    let both = length-append front more in
    omega (arith, as_long, long, kept_is, front_is, parts, both)

-- nor with a later epoch
no_later : (epoch other_epoch : ℕ) (list first : List (List ℕ)) (one other : List ℕ) → other_epoch ≡ epoch → PairOpensTo (header_of 2) (other_epoch + 1) list one other → PairOpensTo (header_of 2) epoch first one other → ⊥
no_later epoch other_epoch list first one other same later now =
    let both : Holding (other_epoch + 1) list ≡ Holding epoch first = sym later.0 ∙ now.0 in
    let epochs : other_epoch + 1 ≡ epoch = cc in
    omega (arith, same, epochs)

-- what opens to the first of the kept payloads opens to all of them
as_whole : {D : Type 0} (m : DiskMeaning D) (epoch other_epoch : ℕ) (before kept front more list : List (List ℕ)) (first second : D) (one other : List ℕ) → front ++ more ≡ kept → list ≡ before ++ kept → other_epoch ≡ epoch
    → PairStillOpens m (header_of 2) other_epoch list first second → m.image first one → m.image second other → PairOpensTo (header_of 2) epoch (before ++ front) one other
    → PairOpensTo (header_of 2) epoch (before ++ kept) one other
as_whole m epoch other_epoch before kept front more list first second one other split all same still image other_image short =
    elim still [
      | inl added ↦ elim (added.1 one other image other_image) [
        | inl opens ↦ whole opens
        | inr longer ↦ absurd (no_longer epoch other_epoch before kept front more added.0 one other split
            (subst (λ (l : List (List ℕ)). PairOpensTo (header_of 2) other_epoch (l ++ added.0 ∷ []) one other) all longer) short)
      ]
      | inr written ↦ elim (written.1 one other image other_image) [
        | inl opens ↦ whole opens
        | inr later ↦ absurd (no_later epoch other_epoch written.0 (before ++ front) one other same later short)
      ]
    ]
  where
    whole : PairOpensTo (header_of 2) other_epoch list one other → PairOpensTo (header_of 2) epoch (before ++ kept) one other
    whole opens =
        subst (λ (n : ℕ). PairOpensTo (header_of 2) n (before ++ kept) one other) same
        (subst (λ (l : List (List ℕ)). PairOpensTo (header_of 2) other_epoch l one other) all opens)

-- what a crash leaves since the opening
part_since : {D : Type 0} (m : DiskMeaning D) (f : FilesState D) (now : PairState D) (kept hand : List (List ℕ)) → HasGoneDown m f now kept hand → AreHonest m f.journal f.spare → (one other : List ℕ)
    → m.since (first_disk now) (m.moment (first_disk f.pair)) one → m.since (second_disk now) (m.moment (second_disk f.pair)) other → OpensToPart f.pair.epoch f.pair.payloads (kept ++ hand) one other
part_since m f now kept hand gone honest one other since other_since =
    let was = gone.honest_first honest in
    in_turn m f.pair.swapped f.pair.used f.pair.spare now.used now.spare f.pair.epoch f.pair.payloads (kept ++ hand) (gone.leaves was.0 was.1) one other
    (subst (λ (x : Bool). m.since (if x then now.spare else now.used) (m.moment (first_disk f.pair)) one) gone.swapped since)
    (subst (λ (x : Bool). m.since (if x then now.used else now.spare) (m.moment (second_disk f.pair)) other) gone.swapped other_since)

pub pair_stopped : {D : Type 0} (m : DiskMeaning D) (f : FilesState D) (now : PairState D) (kept hand : List (List ℕ)) (journal spare : D) → HasGoneDown m f now kept hand → journal ≡ first_disk now → spare ≡ second_disk now
    → PairStopped m f kept (kept ++ hand) journal spare
pair_stopped {D} m f now kept hand journal spare gone first second honest one other left other_left =
    let both = gone.honest honest in
    let image : m.image (first_disk now) one = subst (λ (d : D). m.image d one) first left.0 in
    let other_image : m.image (second_disk now) other = subst (λ (d : D). m.image d other) second other_left.0 in
    let o = part_since m f now kept hand gone honest one other
    (subst (λ (d : D). m.since d (m.moment (first_disk f.pair)) one) first left.1)
    (subst (λ (d : D). m.since d (m.moment (second_disk f.pair)) other) second other_left.1) in
    elim (split_one o.front o.rest kept hand gone.few o.split) [
      | inl within ↦ inl (as_whole m f.pair.epoch now.epoch f.pair.payloads kept o.front within.0 now.payloads (first_disk now) (second_disk now) one other within.1 gone.payloads gone.epoch
          (gone.still both.0 both.1 gone.down) image other_image o.opens)
      | inr all ↦ inr (subst (λ (list : List (List ℕ)). PairOpensTo (header_of 2) f.pair.epoch (f.pair.payloads ++ list) one other) all o.opens)
    ]
