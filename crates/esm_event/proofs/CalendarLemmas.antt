-- The calendar of this product's definitions is that of the toolkit's dates.
use Rattle.std.proofs.Common.{◌≡◌, ℕ, zero, suc, ◌+◌, ◌-◌, ◌*◌, ◌/◌, ◌<◌, ◌≤◌, Bool, true, false, cond, nat_le, min, refl, sym, ap, inl, inr, arith, ℤ, pos, negsuc}
use Rattle.std.specs.List.{count_by, range_with_len}
use Rattle.std.proofs.lemmas.Bool.{le-leb, cases_lt}
use Rattle.std.proofs.lemmas.Bool.Decides.{nat_tests}
use Rattle.std.proofs.lemmas.List.Sums.{sum_by-cons}
use Rattle.jiff_core.specs.Calendar.{IsCivilDate, IsYear, day_count, day_of_year, days_of_years, days_from_civil}
use Rattle.jiff_core.specs.Calendar as jiff
use Rattle.jiff_core.specs.March.{march_days}
use Rattle.jiff_core.proofs.SignedLemmas.{signed_arith}
use Rattle.jiff_core.proofs.CalendarLemmas.{day_count-epoch, days_from_civil-day_count, day_count-day_of_year, day_count-lt_year, day_count-later_year, day_of_year_before, days_of_months_mono}
use Rattle.jiff_core.proofs.MarchLemmas.{days_of_years-march_days, march_days-suc}
use Rattle.esm_model.specs.Dates.{new_year, days_of_months, year_of, month_of, days_in_month}

le_false : (a b : ℕ) → b < a → nat_le a b ≡ false
le_false a b h = grind (arith, nat_tests)

-- of the numbers from a on those up to t pass
count_by-range : (p : ℕ → Bool) (t a n : ℕ) → ((k : ℕ) → a ≤ k → k ≤ t → p k ≡ true) → ((k : ℕ) → t < k → p k ≡ false) → count_by p (range_with_len a n) ≡ min n (t + 1 - a)
count_by-range p t a zero below above = omega arith
count_by-range p t a (suc n) below above =
    let rest = count_by-range p t (a + 1) n (λ k low high. below k (omega arith) high) above in
    let first = sum_by-cons (λ x. cond (p x) 1 0) a (range_with_len (a + 1) n) in
    elim (cases_lt t a) [
      | inl lt ↦ let one = rw (above a lt) at first in omega arith
      | inr ge ↦ let one = rw (below a (omega arith) ge) at first in omega arith
    ]

-- the days of months

days_of_months-same : (y n : ℕ) → jiff.days_of_months (pos y) n ≡ days_of_months y n
unfolding jiff.days_of_months days_of_months
days_of_months-same y zero = refl
days_of_months-same y (suc n) = ap (λ k. k + days_in_month y (suc n)) (days_of_months-same y n)

-- the first days of years

days_of_years-suc : (n : ℕ) → days_of_years (suc n) ≡ march_days n + 366
days_of_years-suc n = omega (arith, days_of_years-march_days (suc n), march_days-suc n)

new_year-same : (y : ℕ) → 1970 ≤ y → day_count (pos y) 1 1 ≡ new_year y + 4371953
unfolding day_count new_year jiff.days_of_months
new_year-same y h =
    let back : y + 10000 ≡ suc (y + 9999) = omega arith in
    rw (back, days_of_years-suc) (omega arith)

new_year-long : (y : ℕ) → 365 * (y - 1970) ≤ new_year y
unfolding new_year
new_year-long y = omega arith

-- a date of the toolkit's with its day

pub record IsDayOf (y m d day : ℕ) : Type 0 where
  pub civil : IsCivilDate (pos y) m d
  pub late : 1970 ≤ y
  pub count : day_count (pos y) m d ≡ day + 4371953

-- the day is that of the year's beginning and of the months before
day_parts : (y m d day : ℕ) → IsDayOf y m d day → day + 1 ≡ new_year y + days_of_months y (m - 1) + d
day_parts y m d day h =
    omega (arith, h.count, new_year-same y h.late, day_count-day_of_year (pos y) m d h.civil.2.0, days_of_months-same y (m - 1))

year_of-is : (y m d day : ℕ) → IsDayOf y m d day → year_of day ≡ y
unfolding year_of
year_of-is y m d day h =
    let parts = day_parts y m d day h in
    let begun : (k : ℕ) → 1971 ≤ k → k ≤ y → nat_le (new_year k) day ≡ true = λ k low high.
    le-leb (new_year k) day (elim (cases_lt k y) [
      | inl lt ↦ omega (arith, h.civil, new_year-same k (omega arith), new_year-same y h.late, day_count-later_year (pos k) (pos y) (omega (arith, signed_arith)) (omega (arith, signed_arith)))
      | inr ge ↦ let same : k ≡ y = omega arith in rw same (omega (arith, h.civil))
    ]) in
    let future : (k : ℕ) → y < k → nat_le (new_year k) day ≡ false = λ k lt.
    le_false (new_year k) day (omega (arith, h.count, new_year-same k (omega (arith, h.late)), day_count-lt_year (pos y) m d (pos k) 1 1 h.civil (omega arith) (omega (arith, signed_arith)))) in
    omega (arith, h.late, h.civil, new_year-long y, count_by-range (λ k. nat_le (new_year k) day) y 1971 (day / 365) begun future)

month_of-is : (y m d day : ℕ) → IsDayOf y m d day → month_of y (day - new_year y) ≡ m
unfolding month_of
month_of-is y m d day h =
    let parts = day_parts y m d day h in
    let days = day - new_year y in
    let begun : (k : ℕ) → 0 ≤ k → k ≤ m - 1 → nat_le (days_of_months y k) days ≡ true = λ k low high.
    le-leb (days_of_months y k) days (omega (arith, h.civil, days_of_months_mono (pos y) k (m - 1) high, days_of_months-same y k, days_of_months-same y (m - 1))) in
    let future : (k : ℕ) → m - 1 < k → nat_le (days_of_months y k) days ≡ false = λ k lt.
    le_false (days_of_months y k) days (omega (arith, h.civil, day_of_year_before (pos y) m d k h.civil.1.0 h.civil.2.1 (omega (arith, h.civil)), days_of_months-same y k, days_of_months-same y (m - 1))) in
    omega (arith, h.civil, count_by-range (λ k. nat_le (days_of_months y k) days) (m - 1) 0 12 begun future)

-- the year, the month and the day of the month are those of the definitions

pub record IsDateOf (year : ℤ) (m d day : ℕ) : Type 0 where
  pub year_is : year ≡ pos (year_of day)
  pub month_is : m ≡ month_of (year_of day) (day - new_year (year_of day))
  pub day_is : d ≡ day - new_year (year_of day) - days_of_months (year_of day) (m - 1) + 1

date_of_late : (y m d day : ℕ) → IsDayOf y m d day → IsDateOf (pos y) m d day
date_of_late y m d day h =
    let year = year_of-is y m d day h in
    record {
      year_is = rw year refl;
      month_is = rw year (sym (month_of-is y m d day h));
      day_is = rw year (omega (arith, h.civil, day_parts y m d day h));
    }

pub IsDateOf-days_from_civil : (year : ℤ) (m d day : ℕ) → IsCivilDate year m d → days_from_civil year m d ≡ pos day → IsDateOf year m d day
IsDateOf-days_from_civil (pos y) m d day civil e =
    let count : day_count (pos y) m d ≡ day + 4371953 = omega (arith, signed_arith, days_from_civil-day_count (pos y) m d, e) in
    date_of_late y m d day (record {
      civil = civil;
      late = elim (cases_lt y 1970) [
        | inl lt ↦ absurd (omega (arith, count, day_count-epoch, day_count-lt_year (pos y) m d (pos 1970) 1 1 civil (omega arith) (omega (arith, signed_arith))))
        | inr ge ↦ ge
      ];
      count = count;
    })
IsDateOf-days_from_civil (negsuc y) m d day civil e =
    let count : day_count (negsuc y) m d ≡ day + 4371953 = omega (arith, signed_arith, days_from_civil-day_count (negsuc y) m d, e) in
    absurd (omega (arith, count, day_count-epoch, day_count-lt_year (negsuc y) m d (pos 1970) 1 1 civil (omega arith) (omega (arith, signed_arith))))
