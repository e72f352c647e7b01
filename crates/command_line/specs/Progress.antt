-- What the line that shows the progress of long work says of it; this project's own.
use Rattle.std.specs.Prelude.{ℕ, ◌-◌, ◌*◌, ◌/◌, ◌%◌, ◌||◌, List, ◌++◌, Option, Some, None, if◌then◌else◌, nat_eq, nat_le, nat_lt, codes}
use Rattle.std.specs.Fmt.{decimal}

-- how many whole hundredths of the work are done
abbrev pub percent_of : ℕ → ℕ → ℕ
percent_of done total = if nat_le total done then 100 else done * 100 / total

-- in how many whole seconds the rest will be done at the speed so far, from ten seconds on
abbrev pub seconds_left : ℕ → ℕ → ℕ → Option ℕ
seconds_left done total millis =
    if nat_lt millis 10000 || nat_eq done 0 then None
    else Some ((total - done) * millis / (done * 1000))

-- two digits
abbrev pub two_digits : ℕ → List ℕ
two_digits n = decimal (n / 10) ++ decimal (n % 10)

-- a time as minutes and seconds, and from an hour on with hours
abbrev pub time_text : ℕ → List ℕ
time_text seconds =
    if nat_lt seconds 3600
    then decimal (seconds / 60) ++ codes ":" ++ two_digits (seconds % 60)
    else decimal (seconds / 3600) ++ codes ":" ++ two_digits (seconds / 60 % 60) ++ codes ":"
    ++ two_digits (seconds % 60)
