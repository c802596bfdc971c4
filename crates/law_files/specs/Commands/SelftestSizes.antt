-- How large the image of the self test is, and what it shows, for each number of sections up to
-- 60,000: sizes and sums in closed form.
use Rattle.std.specs.Prelude.{ℕ, ◌+◌, ◌-◌, ◌*◌, ◌/◌, ◌%◌, List, ◌++◌, codes, decimal, Some}
use Rattle.elf_layout.specs.Layout.{rounded_up}
use Rattle.elfkit_outcomes.specs.rebuild_model.Generated.{line_of, found_text}

-- the sum of the numbers up to one
unfoldable pub triangle : ℕ → ℕ
triangle n = n * (n + 1) / 2

-- the bytes of the first n sections, which have 2 to 7 bytes and then 1, again and again
unfoldable pub generated_data_size : ℕ → ℕ
generated_data_size n = n + 21 * (n / 7) + triangle (n % 7)

-- how many of the first n numbers are above another
unfoldable pub above : ℕ → ℕ → ℕ
above least n = n - least

-- the decimal digits of the numbers from 1 to n, of which each has at most five
unfoldable pub digits_up_to : ℕ → ℕ
digits_up_to n = n + above 9 n + above 99 n + above 999 n + above 9999 n

-- the header, the data, the symbols, their names, the sections' names, and the table
unfoldable pub selftest_bytes : ℕ → ℕ
selftest_bytes n =
    let symbols = rounded_up (64 + generated_data_size n) 8 + 24 * (n + 1) in
    let symbol_names = 1 + 2 * n + digits_up_to n in
    let section_names = 27 + 3 * n + digits_up_to n in
    rounded_up (symbols + symbol_names + section_names) 8 + 64 * (n + 4)

-- 3i for each i, and n for each symbol
unfoldable pub selftest_sum : ℕ → ℕ
selftest_sum n = 3 * triangle n + n * (n + 1)

unfoldable pub selftest_lines : ℕ → List ℕ
selftest_lines n =
    line_of (codes "sections") (decimal (n + 4))
    ++ line_of (codes "symbols") (decimal (n + 1))
    ++ line_of (codes "bytes") (decimal (selftest_bytes n))
    ++ line_of (codes "value sum") (decimal (selftest_sum n))
    ++ line_of (codes "found") (found_text (Some n))
