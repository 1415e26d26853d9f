-- The constants that XXH3 multiplies by: the xxHash specification, "XXH3 algorithm overview". The first
-- three are primes of XXH32 and the next five those of XXH64.
use Rattle.std.specs.Prelude.{ℕ}

abbrev pub prime32_1 : ℕ
prime32_1 = 0x9E3779B1

abbrev pub prime32_2 : ℕ
prime32_2 = 0x85EBCA77

abbrev pub prime32_3 : ℕ
prime32_3 = 0xC2B2AE3D

abbrev pub prime64_1 : ℕ
prime64_1 = 0x9E3779B185EBCA87

abbrev pub prime64_2 : ℕ
prime64_2 = 0xC2B2AE3D27D4EB4F

abbrev pub prime64_3 : ℕ
prime64_3 = 0x165667B19E3779F9

abbrev pub prime64_4 : ℕ
prime64_4 = 0x85EBCA77C2B2AE63

abbrev pub prime64_5 : ℕ
prime64_5 = 0x27D4EB2F165667C5

abbrev pub prime_mx1 : ℕ
prime_mx1 = 0x165667919E3779F9

abbrev pub prime_mx2 : ℕ
prime_mx2 = 0x9FB21C651E98DF25
