-- Dates and times of moments, in the Gregorian calendar and in UTC. Source: ISO 8601 (RFC 3339), as the Lambda events
-- show them. A day is counted from 1970-01-01, which is 0.
use Rattle.std.specs.Prelude.{ℕ, zero, suc, ◌+◌, ◌-◌, ◌*◌, ◌/◌, ◌%◌, ◌==◌, nat_le, ◌&&◌, ◌||◌, not, Bool, if◌then◌else◌, List, ◌++◌, codes, count_by}
use Rattle.std.specs.List.{range_with_len}
use Rattle.esm_model.specs.Numbers.{padded_decimal}

-- every fourth year, except the centuries that 400 does not divide
abbrev pub is_leap_year : ℕ → Bool
is_leap_year y = (y % 4 == 0) && (not (y % 100 == 0) || (y % 400 == 0))

-- the number of leap years up to and including this one
abbrev pub leap_years : ℕ → ℕ
leap_years y = y / 4 - y / 100 + y / 400

-- the day on which the year begins
unfoldable pub new_year : ℕ → ℕ
new_year y = 365 * (y - 1970) + (leap_years (y - 1) - leap_years 1969)

-- September, April, June and November have thirty days
abbrev pub days_in_month : ℕ → ℕ → ℕ
days_in_month y m =
    if m == 2 then (if is_leap_year y then 29 else 28)
    else (if (m == 4) || (m == 6) || (m == 9) || (m == 11) then 30 else 31)

-- the number of days in the first n months of the year
unfoldable pub days_of_months : ℕ → ℕ → ℕ
days_of_months y zero = 0
days_of_months y (suc n) = days_of_months y n + days_in_month y (suc n)

-- 1970, and one more for each later year that has begun by the day; a year has at least 365 days, which bounds the search
unfoldable pub year_of : ℕ → ℕ
year_of day = 1970 + count_by (λ y. nat_le (new_year y) day) (range_with_len 1971 (day / 365))

-- how many months of the year have begun on this day of it, counted from 0
unfoldable pub month_of : ℕ → ℕ → ℕ
month_of y days = count_by (λ n. nat_le (days_of_months y n) days) (range_with_len 0 12)

-- the date on this day of the year, counted from 0
abbrev pub date_in_year : ℕ → ℕ → List ℕ
date_in_year y days =
    padded_decimal 4 y ++ codes "-" ++ padded_decimal 2 (month_of y days) ++ codes "-"
    ++ padded_decimal 2 (days - days_of_months y (month_of y days - 1) + 1)

-- `1970-01-01`, of a day
unfoldable pub day_text : ℕ → List ℕ
day_text day = date_in_year (year_of day) (day - new_year (year_of day))

-- `00:00:00`, of a number of seconds
abbrev pub clock_text : ℕ → List ℕ
clock_text s =
    padded_decimal 2 (s / 3600 % 24) ++ codes ":" ++ padded_decimal 2 (s / 60 % 60) ++ codes ":"
    ++ padded_decimal 2 (s % 60)

-- `1970-01-01T00:00:00`, of a moment in milliseconds
abbrev pub second_of_day_text : ℕ → List ℕ
second_of_day_text ms = day_text (ms / 86400000) ++ codes "T" ++ clock_text (ms / 1000)

-- `1970-01-01T00:00:00.000Z`, of a moment in milliseconds
unfoldable pub date_text : ℕ → List ℕ
date_text ms = second_of_day_text ms ++ codes "." ++ padded_decimal 3 (ms % 1000) ++ codes "Z"

-- `1970-01-01T00:00:00Z`, of a moment in milliseconds; the part below a second is cut off
unfoldable pub second_text : ℕ → List ℕ
second_text ms = second_of_day_text ms ++ codes "Z"
