-- UUIDs of version 4 from random bytes (RFC 9562, sections 4.1, 4.2 and 5.4).
use Rattle.std.specs.Prelude.{ℕ, List, slice_index, slice_set, bit_and, bit_or}

-- byte b at an index becomes (b & kept) | set
abbrev pub with_bits : ℕ → ℕ → ℕ → List ℕ → List ℕ
with_bits index kept set bytes = slice_set bytes index (bit_or (bit_and (slice_index bytes index) kept) set)

-- byte 6 has the version, 4, in its high four bits, and byte 8 the variant in its high two
abbrev pub random_uuid : List ℕ → List ℕ
random_uuid random = with_bits 8 0x3f 0x80 (with_bits 6 0x0f 0x40 random)
