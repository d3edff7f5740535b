-- What is kept beside records that come is what the history says.
use Rattle.std.proofs.Common.{◌≡◌, ℕ, zero, suc, ◌+◌, ◌<◌, ◌≤◌, Bool, true, false, List, [], ◌∷◌, ◌++◌, length, max, refl, sym, ap, ◌∙◌, subst, inl, inr, Option, Some, is_none, arith, add-zero}
use Rattle.std.specs.Prelude.{slice_get, if◌then◌else◌}
use Rattle.std.proofs.lemmas.Bool.{cases_Bool}
use Rattle.esm_model.specs.declared.config.Config.{Config}
use Rattle.esm_model.specs.Records.{Record}
use Rattle.esm_model.specs.declared.entry.Fate.{Fate}
use Rattle.esm_model.specs.Setting.{Setting, record_at}
use Rattle.esm_model.specs.EventText.{record_text}
use Rattle.esm_model.specs.Windows.{window_floor, window_of}
use Rattle.esm_shard_index.specs.Progress.{AreFound, found_at}
use Rattle.esm_shard_index.specs.Windows.{window_before}
use Rattle.esm_shard_index.specs.WindowsLaws.{open_windows}
use Rattle.esm_shard_index.proofs.WindowSteps.{window_follows}
use Rattle.esm_ledger.specs.Shard.{measure_at}
use Rattle.esm_ledger.specs.Measuring.{window_next, measures_of, last_of, open_of}

-- how many there are

pub length_measures : (config : Config) (before : ℕ) (rs : List Record) → length (measures_of config before rs) ≡ length rs
length_measures config before [] = refl
length_measures config before (r ∷ rs) = ap suc (length_measures config (window_next config before r) rs)

one_more : (b : Bool) (w n : ℕ) (ws : List ℕ) → length ws ≤ n → length (if b then w ∷ ws else ws) ≤ suc n
one_more true w n ws low = omega (arith, low)
one_more false w n ws low = omega (arith, low)

pub length_open : (config : Config) (before : ℕ) (rs : List Record) (fs : List (Option Fate)) → length (open_of config before rs fs) ≤ length rs
length_open config before [] fs = omega arith
length_open config before (r ∷ rs) [] = omega arith
length_open config before (r ∷ rs) (f ∷ fs) =
    one_more (is_none f) (window_next config before r) (length rs) (open_of config (window_next config before r) rs fs) (length_open config (window_next config before r) rs fs)

open_front : (config : Config) (before : ℕ) (r : Record) (rs : List Record) (f : Option Fate) (fs : List (Option Fate))
    → open_of config before (r ∷ rs) (f ∷ fs) ≡ (if is_none f then window_next config before r ∷ [] else []) ++ open_of config (window_next config before r) rs fs
open_front config before r rs f fs = elim (cases_Bool (is_none f)) [ inl is ↦ rw is refl | inr off ↦ rw off refl ]

-- over a setting

-- the records stand from a place on, after a record of this window
pub record Stands (s : Setting) (n first before : ℕ) (rs : List Record) : Type 0 where
  pub window : before ≡ window_before s n first
  pub stand : (k : ℕ) (r : Record) → slice_get rs k ≡ Some r → record_at s n (first + k) ≡ Some r

next_window : (s : Setting) (n first before : ℕ) (r : Record) (rs : List Record) → Stands s n first before (r ∷ rs) → window_next s.config before r ≡ window_of s n first
next_window s n first before r rs is =
    let here : record_at s n first ≡ Some r = subst (λ (i : ℕ). record_at s n i ≡ Some r) (add-zero first) (is.stand 0 r refl) in
    ap (λ (b : ℕ). max b (window_floor s.config.tumbling_ms r.arrival)) is.window ∙ sym (window_follows s n first r here)

shifted : (first k : ℕ) → first + suc k ≡ suc first + k
shifted first k = omega arith

rest_stands : (s : Setting) (n first before : ℕ) (r : Record) (rs : List Record) → Stands s n first before (r ∷ rs) → Stands s n (suc first) (window_next s.config before r) rs
rest_stands s n first before r rs is = record {
  window = next_window s n first before r rs is;
  stand = λ k q at. subst (λ (i : ℕ). record_at s n i ≡ Some q) (shifted first k) (is.stand (suc k) q at);
}

pub lengths_told : (s : Setting) (before : ℕ) (rs : List Record) (k : ℕ) (r : Record) → slice_get rs k ≡ Some r → (measure_at (measures_of s.config before rs) k).length ≡ length (record_text s.config r)
lengths_told s before [] k r at = cc
lengths_told s before (q ∷ rs) zero r at = (let same : q ≡ r = cc in ap (λ (x : Record). length (record_text s.config x)) same)
lengths_told s before (q ∷ rs) (suc k) r at = lengths_told s (window_next s.config before q) rs k r at

pub windows_told : (s : Setting) (n first before : ℕ) (rs : List Record) → Stands s n first before rs → (k : ℕ) → k < length rs → (measure_at (measures_of s.config before rs) k).window ≡ window_of s n (first + k)
windows_told s n first before [] is k low = absurd (omega (arith, low))
windows_told s n first before (r ∷ rs) is zero low = next_window s n first before r rs is ∙ ap (window_of s n) (sym (add-zero first))
windows_told s n first before (r ∷ rs) is (suc k) low =
    windows_told s n (suc first) (window_next s.config before r) rs (rest_stands s n first before r rs is) k (omega (arith, low)) ∙ ap (window_of s n) (sym (shifted first k))

pub last_told : (s : Setting) (n first before : ℕ) (rs : List Record) → Stands s n first before rs → last_of s.config before rs ≡ window_before s n (first + length rs)
last_told s n first before [] is = is.window ∙ ap (window_before s n) (sym (add-zero first))
last_told s n first before (r ∷ rs) is =
    last_told s n (suc first) (window_next s.config before r) rs (rest_stands s n first before r rs is) ∙ ap (window_before s n) (sym (shifted first (length rs)))

windows_front : (s : Setting) (n first count : ℕ) → open_windows s n first (suc count) ≡ (if is_none (found_at s n first) then window_of s n first ∷ [] else []) ++ open_windows s n (suc first) count
windows_front s n first count = elim (cases_Bool (is_none (found_at s n first))) [ inl is ↦ rw is refl | inr off ↦ rw off refl ]

pub open_told : (s : Setting) (n first before : ℕ) (rs : List Record) (fs : List (Option Fate)) → Stands s n first before rs → length fs ≡ length rs → AreFound s n first fs
    → open_of s.config before rs fs ≡ open_windows s n first (length rs)
open_told s n first before [] fs is even found = refl
open_told s n first before (r ∷ rs) [] is even found = absurd (omega (arith, even))
open_told s n first before (r ∷ rs) (f ∷ fs) is even found =
    let here : f ≡ found_at s n first = found 0 (omega arith) ∙ ap (found_at s n) (add-zero first) in
    let rest : AreFound s n (suc first) fs = λ k low. found (suc k) (omega (arith, low)) ∙ ap (found_at s n) (shifted first k) in
    let next = next_window s n first before r rs is in
    open_front s.config before r rs f fs
    ∙ ap (λ (o : Option Fate). (if is_none o then window_next s.config before r ∷ [] else []) ++ open_of s.config (window_next s.config before r) rs fs) here
    ∙ ap (λ (w : ℕ). (if is_none (found_at s n first) then w ∷ [] else []) ++ open_of s.config (window_next s.config before r) rs fs) next
    ∙ ap (λ (ws : List ℕ). (if is_none (found_at s n first) then window_of s n first ∷ [] else []) ++ ws)
    (open_told s n (suc first) (window_next s.config before r) rs fs (rest_stands s n first before r rs is) (omega (arith, even)) rest)
    ∙ sym (windows_front s n first (length rs))
