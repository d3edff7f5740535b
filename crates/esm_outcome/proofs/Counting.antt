-- How many entries an end calls for, how many records get a fate by them, and which window they need.
use Rattle.std.proofs.Common.{◌≡◌, ℕ, ◌+◌, ◌≤◌, true, List, [], ◌∷◌, ◌++◌, length, refl, sym, ap, ◌∙◌, subst, Option, Some, None, arith, length-append}
use Rattle.std.specs.Prelude.{◌≢◌, IfSome}
use Rattle.std.specs.Option.{option_or}
use Rattle.esm_model.specs.declared.lane.LaneId.{LaneId}
use Rattle.esm_model.specs.declared.entry.Entry.{Entry}
use Rattle.esm_model.specs.declared.entry.Fate.{Fate}
use Rattle.esm_model.specs.declared.entry.Fate.TheVariants.{Succeeded, Exhausted, Expired}
use Rattle.esm_model.specs.declared.entry.WindowState.{WindowState}
use Rattle.esm_model.specs.declared.verdict.Rest.{Rest}
use Rattle.esm_model.specs.declared.verdict.Rest.TheVariants as rest
use Rattle.esm_model.specs.Entries.{last_call, is_running}
use Rattle.esm_shard_index.specs.LaneView.{lane_in}
use Rattle.esm_shard_index.specs.WindowEntries.{has_entry}
use Rattle.esm_shard_index.specs.WindowsLaws.{closing_of}
use Rattle.esm_ledger.specs.declared.ledger.Ledger.{Ledger}
use Rattle.esm_ledger.specs.declared.shard.ShardLedger.{ShardLedger}
use Rattle.esm_ledger.specs.Shard.{closing_in}
use Rattle.esm_ledger.specs.Ledger.{IsAt}
use Rattle.esm_ledger.proofs.Readings.{closing_here}
use Rattle.esm_outcome.specs.declared.outcome.Due.{Due}
use Rattle.esm_outcome.specs.Dues.{given_count, window_in, window_given}
use Rattle.esm_outcome.specs.Preparing.{IsPrepared, PreparesEnd, AreOfWindow}
use Rattle.esm_outcome.specs.Parts.{success_dues, give_up_dues, close_dues, rest_dues, given_up}

-- a batch has no window to close, and a final call has no records
abbrev pub IsEither : Option ℕ → List ℕ → List ℕ → Type 0
IsEither None good left = Unit {0}
IsEither (Some w) good left = (good ≡ []) × (left ≡ [])

-- how many

success_few : (good : List ℕ) (state : Option WindowState) → length (success_dues good state) ≤ 1
success_few [] state = omega arith
success_few (i ∷ good) state = omega arith

give_up_few : (left : List ℕ) (line : Option (List ℕ)) → length (give_up_dues left line) ≤ 1
give_up_few [] line = omega arith
give_up_few (i ∷ left) line = omega arith

batch_few : (r : Rest) (left : List ℕ) (tries : ℕ) (line : Option (List ℕ)) → length (rest_dues r left None tries line) ≤ 1
batch_few rest.Nothing left tries line = omega arith
batch_few rest.Again left tries line = omega arith
batch_few rest.Counted left tries line = omega arith
batch_few (rest.Split k) left tries line = omega arith
batch_few rest.Exhausted left tries line =
    let both : length (give_up_dues left line ++ []) ≡ length (give_up_dues left line) + 0 = length-append (give_up_dues left line) [] in
    let few = give_up_few left line in
    omega (arith, both, few)

final_few : (r : Rest) (w tries : ℕ) (line : Option (List ℕ)) → length (rest_dues r [] (Some w) tries line) ≤ 1
final_few rest.Nothing w tries line = omega arith
final_few rest.Again w tries line = omega arith
final_few rest.Counted w tries line = omega arith
final_few (rest.Split k) w tries line = omega arith
final_few rest.Exhausted w tries line = omega arith

pub dues_few : (good left : List ℕ) (state : Option WindowState) (r : Rest) (closing : Option ℕ) (tries : ℕ) (line : Option (List ℕ)) → IsEither closing good left
    → length (success_dues good state ++ rest_dues r left closing tries line) ≤ 2
dues_few good left state r None tries line either =
    let both = length-append (success_dues good state) (rest_dues r left None tries line) in
    let a = success_few good state in
    let b = batch_few r left tries line in
    omega (arith, both, a, b)
dues_few good left state r (Some w) tries line either =
    let both = length-append (success_dues good state) (rest_dues r left (Some w) tries line) in
    let a = success_few good state in
    let b : length (rest_dues r left (Some w) tries line) ≤ 1 = subst (λ (xs : List ℕ). length (rest_dues r xs (Some w) tries line) ≤ 1) (sym either.1) (final_few r w tries line) in
    omega (arith, both, a, b)

-- how many records

given_append : (ds es : List Due) → given_count (ds ++ es) ≡ given_count ds + given_count es
given_append [] es = omega arith
given_append (d ∷ ds) es = (let rest = given_append ds es in omega (arith, rest))

given_good : (good : List ℕ) (state : Option WindowState) → given_count (success_dues good state) ≡ length good
given_good [] state = refl
given_good (i ∷ good) state = omega arith

given_left : (left : List ℕ) (line : Option (List ℕ)) → given_count (give_up_dues left line) ≡ length left
given_left [] line = refl
given_left (i ∷ left) line = omega arith

given_close : (closing : Option ℕ) → given_count (close_dues closing) ≡ 0
given_close None = refl
given_close (Some w) = refl

given_rest : (r : Rest) (left : List ℕ) (closing : Option ℕ) (tries : ℕ) (line : Option (List ℕ)) → given_count (rest_dues r left closing tries line) ≡ given_up r (length left)
given_rest rest.Nothing left closing tries line = given_close closing
given_rest rest.Again left closing tries line = refl
given_rest rest.Counted left closing tries line = refl
given_rest (rest.Split k) left closing tries line = refl
given_rest rest.Exhausted left closing tries line =
    let both = given_append (give_up_dues left line) (close_dues closing) in
    let a = given_left left line in
    let b = given_close closing in
    omega (arith, both, a, b)

pub dues_given : (good left : List ℕ) (state : Option WindowState) (r : Rest) (closing : Option ℕ) (tries : ℕ) (line : Option (List ℕ))
    → length good + given_up r (length left) ≡ given_count (success_dues good state ++ rest_dues r left closing tries line)
dues_given good left state r closing tries line =
    let both = given_append (success_dues good state) (rest_dues r left closing tries line) in
    let a = given_good good state in
    let b = given_rest r left closing tries line in
    omega (arith, both, a, b)

-- the window

window_left : (left : List ℕ) (line : Option (List ℕ)) (ds : List Due) → window_given ds ≡ None → window_given (give_up_dues left line ++ ds) ≡ None
window_left [] line ds none = none
window_left (i ∷ left) line ds none = none

window_close : (closing : Option ℕ) → window_given (close_dues closing) ≡ None
window_close None = refl
window_close (Some w) = refl

window_rest : (r : Rest) (left : List ℕ) (closing : Option ℕ) (tries : ℕ) (line : Option (List ℕ)) → window_given (rest_dues r left closing tries line) ≡ None
window_rest rest.Nothing left closing tries line = window_close closing
window_rest rest.Again left closing tries line = refl
window_rest rest.Counted left closing tries line = refl
window_rest (rest.Split k) left closing tries line = refl
window_rest rest.Exhausted left closing tries line = window_left left line (close_dues closing) (window_close closing)

or_none : (o : Option ℕ) → option_or o None ≡ o
or_none None = refl
or_none (Some w) = refl

dues_window : (good : List ℕ) (state : Option WindowState) (ds : List Due) → window_given ds ≡ None → (good ≡ [] → state ≡ None) → window_in state ≡ window_given (success_dues good state ++ ds)
dues_window [] state ds none empty = ap window_in (empty refl) ∙ sym none
dues_window (i ∷ good) state ds none empty = sym (ap (option_or (window_in state)) none ∙ or_none (window_in state))

pub window_is : (good left : List ℕ) (state : Option WindowState) (r : Rest) (closing last : Option ℕ) (tries : ℕ) (line : Option (List ℕ)) → (good ≡ [] → state ≡ None) → closing ≡ last
    → option_or closing (window_in state) ≡ option_or last (window_given (success_dues good state ++ rest_dues r left closing tries line))
window_is good left state r closing last tries line empty ends =
    ap (option_or closing) (dues_window good state (rest_dues r left closing tries line) (window_rest r left closing tries line) empty)
    ∙ ap (λ (o : Option ℕ). option_or o (window_given (success_dues good state ++ rest_dues r left closing tries line))) ends

-- what the entries need

succeeded_stays : Succeeded ≢ Expired
succeeded_stays = λ is. (let clash : ◌≡◌ {A = Fate} Succeeded Expired = is in cc)

exhausted_stays : Exhausted ≢ Expired
exhausted_stays = λ is. (let clash : ◌≡◌ {A = Fate} Exhausted Expired = is in cc)

close_of_window : (window closing : Option ℕ) → AreOfWindow window (close_dues closing)
close_of_window window None = tt
close_of_window window (Some w) = (tt, tt)

left_of_window : (window : Option ℕ) (left : List ℕ) (line : Option (List ℕ)) (closing : Option ℕ) → AreOfWindow window (give_up_dues left line ++ close_dues closing)
left_of_window window [] line closing = close_of_window window closing
left_of_window window (i ∷ left) line closing = ((exhausted_stays, tt), close_of_window None closing)

rest_of_window : (window : Option ℕ) (r : Rest) (left : List ℕ) (closing : Option ℕ) (tries : ℕ) (line : Option (List ℕ)) → AreOfWindow window (rest_dues r left closing tries line)
rest_of_window window rest.Nothing left closing tries line = close_of_window window closing
rest_of_window window rest.Again left closing tries line = tt
rest_of_window window rest.Counted left closing tries line = (tt, tt)
rest_of_window window (rest.Split k) left closing tries line = tt
rest_of_window window rest.Exhausted left closing tries line = left_of_window window left line closing

own_window : (state : Option WindowState) → IfSome state (λ x. window_in state ≡ Some x.window)
own_window None = tt
own_window (Some x) = refl

pub dues_of_window : (good left : List ℕ) (state : Option WindowState) (r : Rest) (closing : Option ℕ) (tries : ℕ) (line : Option (List ℕ)) → IsEither closing good left
    → AreOfWindow (option_or closing (window_in state)) (success_dues good state ++ rest_dues r left closing tries line)
dues_of_window [] left state r closing tries line either = rest_of_window (option_or closing (window_in state)) r left closing tries line
dues_of_window (i ∷ good) left state r None tries line either = ((succeeded_stays, own_window state), rest_of_window None r left None tries line)
dues_of_window (i ∷ good) left state r (Some w) tries line either = absurd (let clash : (i ∷ good) ≡ [] = either.0 in cc)

-- the end

tries_ready : (closing state : Option ℕ) (c : Ledger) (n : ℕ) (x : ShardLedger) → IsAt c n x → IfSome (option_or closing state) (IsPrepared c n) → IfSome closing (λ w. has_entry x.windows.tries w ≡ true)
tries_ready None state c n x at ready = tt
tries_ready (Some w) state c n x at ready = ready.tries x at

pub prepares_end : (h : List Entry) (lane : LaneId) (closing state : Option ℕ) → is_running h lane ≡ true → closing ≡ closing_of (last_call h lane) → PreparesEnd h lane (option_or closing state)
prepares_end h lane closing state runs ends = λ c k same ready x at.
    let here = closing_here c lane x k at (subst (λ (g : List Entry). is_running g lane ≡ true) (sym same) runs) in
    let is : closing ≡ closing_in (lane_in x.lanes lane.lane).state.running = ends ∙ ap (λ (g : List Entry). closing_of (last_call g lane)) (sym same) ∙ here in
    subst (λ (o : Option ℕ). IfSome o (λ w. has_entry x.windows.tries w ≡ true)) is (tries_ready closing state c lane.shard x at ready)
