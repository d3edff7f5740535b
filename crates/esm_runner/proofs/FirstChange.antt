-- The record that brought a change is the first of the input that differs: those that came before its list do not.
use Rattle.std.proofs.Common.{◌≡◌, ◌<◌, ◌≤◌, ◌+◌, ℕ, zero, suc, List, [], ◌∷◌, ◌++◌, length, refl, sym, ap, ◌∙◌, subst, arith, append_assoc, Option, Some, None}
use Rattle.std.specs.Prelude.{slice_get, option_map, if◌then◌else◌}
use Rattle.std.specs.List.{All}
use Rattle.std.specs.Option.{option_or}
use Rattle.std.proofs.lemmas.Bool.{eq-eqb}
use Rattle.std.proofs.lemmas.List.{append-nil, length-append}
use Rattle.esm_model.specs.Records.{Record}
use Rattle.esm_model.specs.declared.book.Change.{Change}
use Rattle.esm_model.specs.declared.entry.Entry.{Entry}
use Rattle.esm_model.specs.declared.setup.Setup.{Setup}
use Rattle.esm_model.specs.declared.setup.Told.{Told}
use Rattle.esm_model.specs.Setting.{Setting, records_of}
use Rattle.esm_model.specs.Entries.{came_count}
use Rattle.esm_model.specs.Books.{entries_told, records_told, setting_told, IsOfStream}
use Rattle.esm_model.specs.Step.{Legal}
use Rattle.esm_model.proofs.BookLaws.{count_told}
use Rattle.esm_model.proofs.TellingFacts.{records-append}
use Rattle.esm_ingest.specs.Coming.{of_shard}
use Rattle.esm_ingest.specs.Changes.{first_change, first_change_from, change_at, change_of, place_after}
use Rattle.esm_input.specs.Reading.{InputState, handed}
use Rattle.esm_stream_book.specs.Items.{items_told, records_in_items, DiffersTold}
use Rattle.esm_stream_core.specs.Told.{told_of}
use Rattle.esm_stream_book.specs.Books.{BookState}
use Rattle.esm_stream_book.specs.Keeping.{IsSound}
use Rattle.esm_pool.specs.Ran.{IsChangeOf}
use Rattle.esm_runner.specs.Coming.{HaveCome, SomeCame}
use Rattle.esm_runner.specs.Ran.{IsFirstChange}
use Rattle.esm_runner.proofs.KeptNumbers.{kept_of_came, none_otherwise}
use Rattle.esm_runner.proofs.Items.{items_both, shard_both, get_front, get_seam, told_come, come_is, front_of_stream}
use Rattle.esm_runner.proofs.Records.{came_all}

-- behind records none of which differs

abbrev NoneDiffers : Setting → List Record → Type 0
NoneDiffers s rs = (done : List Record) (r : Record) (more : List Record) → rs ≡ done ++ r ∷ more → change_at s (place_after [] done r) r ≡ None

behind_same : (s : Setting) (rs done todo xs : List Record) → NoneDiffers s rs → rs ≡ done ++ todo → first_change_from s [] done (todo ++ xs) ≡ first_change_from s [] rs xs
behind_same s rs done [] xs none split = ap (λ l. first_change_from s [] l xs) (sym (split ∙ append-nil done))
behind_same s rs done (r ∷ todo) xs none split =
    ap (λ o. option_or o (first_change_from s [] (done ++ r ∷ []) (todo ++ xs))) (none done r todo split)
    ∙ behind_same s rs (done ++ r ∷ []) todo xs none (split ∙ sym (append_assoc done (r ∷ []) todo))

-- after a history by which records came, as behind these records

place_same : (h : List Entry) (rs acc : List Record) (r : Record) → ((n : ℕ) → came_count h n ≡ length (of_shard n rs)) → place_after h acc r ≡ place_after [] (rs ++ acc) r
place_same h rs acc r came =
    let n = r.shard in
    let count = came n in
    let both : length (of_shard n (rs ++ acc)) ≡ length (of_shard n rs) + length (of_shard n acc) = ap length (shard_both n rs acc) ∙ length-append (of_shard n rs) (of_shard n acc) in
    let same : came_count h n + length (of_shard n acc) ≡ 0 + length (of_shard n (rs ++ acc)) = omega (arith, count, both) in
    same

after_same : (s z : Setting) (h : List Entry) (rs acc xs : List Record) → ((i : ℕ) (r : Record) → change_at s i r ≡ change_at z i r) → ((n : ℕ) → came_count h n ≡ length (of_shard n rs))
    → first_change_from s h acc xs ≡ first_change_from z [] (rs ++ acc) xs
after_same s z h rs acc [] same came = refl
after_same s z h rs acc (r ∷ xs) same came =
    ap (λ i. option_or (change_at s i r) (first_change_from s h (acc ++ r ∷ []) xs)) (place_same h rs acc r came)
    ∙ ap (λ o. option_or o (first_change_from s h (acc ++ r ∷ []) xs)) (same (place_after [] (rs ++ acc) r) r)
    ∙ ap (λ o. option_or (change_at z (place_after [] (rs ++ acc) r) r) o)
    (after_same s z h rs (acc ++ r ∷ []) xs same came ∙ ap (λ l. first_change_from z [] l xs) (sym (append_assoc rs acc (r ∷ []))))

-- where more records follow

or_stays : (o a b : Option Change) (change : Change) → (a ≡ Some change → b ≡ Some change) → option_or o a ≡ Some change → option_or o b ≡ Some change
or_stays None a b change on is = on is
or_stays (Some c) a b change on is = is

first_stays : (s : Setting) (h : List Entry) (acc xs ys : List Record) (change : Change) → first_change_from s h acc xs ≡ Some change → first_change_from s h acc (xs ++ ys) ≡ Some change
first_stays s h acc [] ys change is = absurd (cc)
first_stays s h acc (r ∷ xs) ys change is =
    or_stays (change_at s (place_after h acc r) r) (first_change_from s h (acc ++ r ∷ []) xs) (first_change_from s h (acc ++ r ∷ []) (xs ++ ys)) change
    (first_stays s h (acc ++ r ∷ []) xs ys change) is

-- the records that came do not differ

get_back : (xs ys : List Record) (i : ℕ) (r : Record) → i < length xs → slice_get (xs ++ ys) i ≡ Some r → slice_get xs i ≡ Some r
get_back [] ys i r low at = absurd (omega (arith, low))
get_back (x ∷ xs) ys zero r low at = at
get_back (x ∷ xs) ys (suc i) r low at = get_back xs ys i r (omega (arith, low)) at

none_differs : (s : Setting) (h : List Entry) (rs all tail : List Record) → Legal s h → ((n : ℕ) → came_count h n ≡ length (records_of s n)) → ((n : ℕ) → length (of_shard n rs) ≤ came_count h n)
    → ((n : ℕ) → (rest : List Record) × (of_shard n all ≡ records_of s n ++ rest)) → all ≡ rs ++ tail → NoneDiffers s rs
none_differs s h rs all tail legal count within some parts done r more split =
    let n : ℕ = r.shard in
    let i : ℕ = length (of_shard n done) in
    let own : of_shard n (r ∷ more) ≡ r ∷ of_shard n more = ap (λ c. if c then r ∷ of_shard n more else of_shard n more) (eq-eqb n n refl) in
    let list_is : of_shard n rs ≡ of_shard n done ++ r ∷ of_shard n more = ap (of_shard n) split ∙ shard_both n done (r ∷ more) ∙ ap (λ l. of_shard n done ++ l) own in
    let long : length (of_shard n rs) ≡ length (of_shard n done) + length (r ∷ of_shard n more) = ap length list_is ∙ length-append (of_shard n done) (r ∷ of_shard n more) in
    let few = within n in
    let counted = count n in
    let came : i < came_count h n = omega (arith, long, few) in
    let low : i < length (records_of s n) = omega (arith, came, counted) in
    let here : slice_get (of_shard n rs) i ≡ Some r = ap (λ l. slice_get l i) list_is ∙ get_seam (of_shard n done) (of_shard n more) r in
    let there : slice_get (of_shard n all) i ≡ Some r = ap (λ l. slice_get (of_shard n l) i) parts ∙ ap (λ l. slice_get l i) (shard_both n rs tail) ∙ get_front (of_shard n rs) (of_shard n tail) i r here in
    let at : slice_get (records_of s n) i ≡ Some r = get_back (records_of s n) (some n).0 i r low (ap (λ l. slice_get l i) (sym (some n).1) ∙ there) in
    let place : 0 + i ≡ i = omega arith in
    ap (λ k. change_at s k r) place ∙ ap (λ o. option_map (change_of r i) o) (none_otherwise s n i r (kept_of_came s h n i legal came) at)

-- the change

pub legal_own : {D T : Type 0} (w : BookState D T) → IsSound w → Legal w.core.setting w.core.past
legal_own w sound = sound.legal w.core.setting.streams (λ a i r at. at)

-- before it no more records came than came in all
within_all : {S D T : Type 0} (setup : Setup) (w : BookState D T) (i : InputState S) (change : Change) → IsSound w → (of : IsChangeOf items_told DiffersTold setup (told_of w.core) i change) → (n : ℕ)
    → length (of_shard n (records_in_items of.front)) ≤ came_count w.core.past n
within_all setup w i change sound of n =
    let all : came_count w.core.past n ≡ length (records_of w.core.setting n) = came_all w.core sound.records sound.of_stream n in
    let told : records_of w.core.setting n ≡ records_told n (told_of w.core) = come_is w n sound in
    let both : records_told n (told_of w.core) ≡ records_told n of.before ++ records_told n of.later = ap (records_told n) of.history ∙ records-append n of.before of.later in
    let long : length (records_of w.core.setting n) ≡ length (records_told n of.before) + length (records_told n of.later) = ap length (told ∙ both) ∙ length-append (records_told n of.before) (records_told n of.later) in
    let front : length (records_told n of.before) ≡ length (of_shard n (records_in_items of.front)) = ap length (told_come of.before of.front of.came n) in
    omega (arith, all, long, front)

pub first_is : {S D T : Type 0} (setup : Setup) (w : BookState D T) (i : InputState S) (change : Change) → IsSound w → setting_told setup (told_of w.core) ≡ w.core.setting
    → SomeCame w (records_in_items (handed i)) → IsChangeOf items_told DiffersTold setup (told_of w.core) i change → IsFirstChange w.core.setting (records_in_items (handed i)) change
first_is setup w i change sound is some of =
    let s : Setting = w.core.setting in
    let before : List Told = of.before in
    let front : List Record = records_in_items of.front in
    let list : List Record = records_in_items of.list in
    let rest : List Record = records_in_items of.rest in
    let parts : records_in_items (handed i) ≡ front ++ (list ++ rest) =
    ap records_in_items of.handed_out
    ∙ (items_both (of.front ++ of.list) of.rest ∙ ap (λ l. l ++ records_in_items of.rest) (items_both of.front of.list))
    ∙ append_assoc (records_in_items of.front) (records_in_items of.list) (records_in_items of.rest) in
    let of_stream : All IsOfStream before = front_of_stream of.before of.later (subst (All IsOfStream) of.history sound.of_stream) in
    let came : (n : ℕ) → came_count (entries_told before) n ≡ length (of_shard n front) = λ n. count_told of.before n of_stream ∙ ap length (told_come of.before of.front of.came n) in
    let within : (n : ℕ) → length (of_shard n front) ≤ came_count w.core.past n = λ n. within_all setup w i change sound of n in
    let none : NoneDiffers s front = none_differs w.core.setting w.core.past front (records_in_items (handed i)) (list ++ rest) (legal_own w sound) (came_all w.core sound.records sound.of_stream) within some parts in
    let same : (k : ℕ) (r : Record) → change_at (setting_told setup before) k r ≡ change_at w.core.setting k r = λ k r. ap (λ v. change_at v k r) is in
    let here : first_change_from w.core.setting [] front list ≡ Some change =
    ap (λ l. first_change_from w.core.setting [] l list) (sym (append-nil front))
    ∙ (sym (after_same (setting_told setup before) w.core.setting (entries_told before) front [] list same came) ∙ of.differs_so) in
    ap (λ l. first_change_from w.core.setting [] [] l) parts
    ∙ (behind_same w.core.setting front [] front (list ++ rest) none refl ∙ first_stays w.core.setting [] front list rest change here)

-- where all of them came none differs

all_within : {D T : Type 0} (w : BookState D T) (records : List Record) → IsSound w → HaveCome w records → (n : ℕ) → length (of_shard n records) ≤ came_count w.core.past n
all_within w records sound come n =
    let count : came_count w.core.past n ≡ length (records_of w.core.setting n) = came_all w.core sound.records sound.of_stream n in
    let long : length (records_of w.core.setting n) ≡ length (of_shard n records) = ap length (come n) in
    omega (arith, count, long)

pub none_is : {D T : Type 0} (w : BookState D T) (records : List Record) → IsSound w → HaveCome w records → first_change w.core.setting [] records ≡ None
none_is w records sound come =
    let some : (n : ℕ) → (rest : List Record) × (of_shard n records ≡ records_of w.core.setting n ++ rest) = λ n. ([], sym (come n) ∙ sym (append-nil (records_of w.core.setting n))) in
    let none : NoneDiffers w.core.setting records =
    none_differs w.core.setting w.core.past records records [] (legal_own w sound) (came_all w.core sound.records sound.of_stream) (all_within w records sound come) some (sym (append-nil records)) in
    ap (λ l. first_change_from w.core.setting [] [] l) (sym (append-nil records)) ∙ behind_same w.core.setting records [] records [] none refl
