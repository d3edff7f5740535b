-- What is kept of a core stays true where the end of the input is noted.
use Rattle.std.proofs.Common.{◌≡◌, ℕ, ◌+◌, ◌<◌, ◌≤◌, true, false, List, ◌∷◌, length, refl, ap, arith, Option, Some, None}
use Rattle.esm_model.specs.declared.moment.TheConstants.{MAX_MOMENT}
use Rattle.esm_model.specs.declared.entry.Entry.{Entry}
use Rattle.esm_model.specs.declared.entry.Entry.TheVariants.{Shut}
use Rattle.esm_model.specs.Entries.{is_shut}
use Rattle.esm_model.specs.Step.{IsLater}
use Rattle.esm_queue_model.specs.QueueSetting.{QueueSetting}
use Rattle.esm_queue_core.specs.declared.owed.First.{First}
use Rattle.esm_queue_core.specs.declared.owed.Gift.{Gift}
use Rattle.esm_queue_core.specs.declared.standing.Standing.{Standing}
use Rattle.esm_queue_core.specs.declared.standing.Standing.TheVariants.{Whole, Paying, Left}
use Rattle.esm_queue_core.specs.Standing.{standing_shut}
use Rattle.esm_queue_core.specs.Kept.{Parts, IsKept, StandsSo, own, full, with_owed, first_cost, gift_cost, shut_cost, running_lanes}
use Rattle.esm_queue_core.proofs.Settling.{shut_sound}
use Rattle.esm_queue_core.proofs.Added.{Notes}

shut_stands : (s t : QueueSetting) (h : List Entry) (m running : ℕ) (st : Standing) (f : Option First) (g : Option Gift) → StandsSo s t h (with_owed f g h) running st → is_shut h ≡ false → IsLater h m
    → StandsSo s t (Shut m ∷ h) (with_owed f g (Shut m ∷ h)) running (standing_shut st f g)
shut_stands s t h m running Whole None None w going later = (shut_sound s h m w.0 going later, shut_sound t h m w.1 going later, w.2)
shut_stands s t h m running Paying None None w going later = (shut_sound t h m w.0 going later, w.1)
shut_stands s t h m running Left None None w going later = tt
shut_stands s t h m running st (Some f) g w going later = tt
shut_stands s t h m running st None (Some g) w going later = tt

shut_one : (h : List Entry) → is_shut h ≡ false → shut_cost (is_shut h) ≡ 1
shut_one h going = ap shut_cost going

one_less : (f g r c : ℕ) → c ≡ 1 → f + g + r + 0 + 1 ≤ f + g + r + c
one_less f g r c is = omega arith

pub shut_room : (p : Parts) → IsKept p → is_shut p.past ≡ false → p.number < p.capacity
shut_room p k going = let room = k.room in let one = shut_one p.past going in omega (arith, room, one)

pub shut_notes : (p : Parts) (m : ℕ) → IsKept p → is_shut p.past ≡ false → p.last ≤ m → m ≤ MAX_MOMENT → Notes p (Shut m) true (standing_shut p.standing p.first p.gift)
shut_notes p m k going on within =
    let last = k.last in
    let later : IsLater p.past m = record { not_back = omega arith; within = within } in
    record {
      plain = λ s. refl;
      calls = refl;
      in_time = within;
      shut_is = refl;
      cost_is = one_less (first_cost p.first) (gift_cost p.gift) (length (running_lanes p.past)) (shut_cost (is_shut p.past)) (shut_one p.past going);
      stands = shut_stands (own p) (full p) p.past m p.running p.standing p.first p.gift k.standing going later;
    }
