-- The numbers of rates. InfiniBand Architecture Specification, Volume 1: subnet administration, PathRecord (Rate).
use Rattle.std.specs.Prelude.{ℕ, ◌==◌, if◌then◌else◌}

-- the number of a rate in tenths of Gb/s; that of 2.5 Gb/s if the rate has none
abbrev pub rate_number : ℕ → ℕ
rate_number rate =
    if rate == 50 then 5 else (if rate == 100 then 3 else (if rate == 140 then 11 else (if rate == 200 then 6 else
    (if rate == 250 then 15 else (if rate == 280 then 19 else (if rate == 300 then 4 else (if rate == 400 then 7 else
    (if rate == 500 then 20 else (if rate == 560 then 12 else (if rate == 600 then 8 else (if rate == 800 then 9 else
    (if rate == 1000 then 16 else (if rate == 1120 then 13 else (if rate == 1200 then 10 else (if rate == 1680 then 14 else
    (if rate == 2000 then 17 else (if rate == 3000 then 18 else (if rate == 4000 then 21 else (if rate == 6000 then 22 else
    (if rate == 8000 then 23 else (if rate == 12000 then 24 else 2)))))))))))))))))))))

-- the rate with a number, in tenths of Gb/s; 0 if no rate has the number
abbrev pub rate_of_number : ℕ → ℕ
rate_of_number number =
    if number == 2 then 25 else (if number == 5 then 50 else (if number == 3 then 100 else (if number == 11 then 140 else
    (if number == 6 then 200 else (if number == 15 then 250 else (if number == 19 then 280 else (if number == 4 then 300 else
    (if number == 7 then 400 else (if number == 20 then 500 else (if number == 12 then 560 else (if number == 8 then 600 else
    (if number == 9 then 800 else (if number == 16 then 1000 else (if number == 13 then 1120 else (if number == 10 then 1200 else
    (if number == 14 then 1680 else (if number == 17 then 2000 else (if number == 18 then 3000 else (if number == 21 then 4000 else
    (if number == 22 then 6000 else (if number == 23 then 8000 else (if number == 24 then 12000 else 0))))))))))))))))))))))
