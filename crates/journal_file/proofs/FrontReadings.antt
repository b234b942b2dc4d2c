-- How far the reading of the first two lines has come, and where it stops.
use Rattle.std.proofs.Common.{ℕ, ◌+◌, pos, List, [], ◌∷◌, None, codes, refl, arith}
use Rattle.std.proofs.lemmas.Int.{ints}
use Rattle.knit_base.specs.declared.profile.Profile.{Profile}
use Rattle.journal_file.specs.Fronts.{AreFront, IsTitle}
use Rattle.journal_file.specs.Grammars.{IsUnambiguous, OneLine}
use Rattle.journal_file.specs.Profiles.{IsProfile}
use Rattle.journal_file.specs.Reading.{FormHasRead, IsFormStop, IsFirstLineTaken, NoneTaken}
use Rattle.journal_file.specs.Spelling.{profile_text}
use Rattle.journal_file.proofs.FormReadings.{both_read, both_stop_first, both_stop_second, line_read, line_stops}
use Rattle.journal_file.proofs.Grammars.{line_one}

pub title_one : IsUnambiguous (OneLine IsTitle)
title_one = line_one IsTitle (λ a b line p q. refl)

-- limits that there may be
abbrev a_profile : Profile
a_profile = record { low = pos 0; high = pos 0; rack = 0; hold = 1; float = None }

profile_is : IsProfile a_profile (profile_text a_profile)
profile_is = record { spelt = refl; lawful = record { lowest = omega (arith, ints); ordered = omega (arith, ints); highest = omega (arith, ints); rack = omega arith; some = omega arith; hold = omega arith; float = tt } }

-- both lines were read
pub front_read : (bytes : List ℕ) (taken : ℕ) (rest : List ℕ) (p : Profile) (behind : List ℕ) → IsFirstLineTaken IsTitle bytes tt rest → IsFirstLineTaken IsProfile rest p behind → FormHasRead AreFront bytes taken (tt, p) behind (taken + 1 + 1)
front_read bytes taken rest p behind title took =
    both_read (OneLine IsTitle) (λ said. OneLine IsProfile) bytes taken tt rest (taken + 1) p behind (taken + 1 + 1) (line_read IsTitle bytes taken tt rest title) (line_read IsProfile rest (taken + 1) p behind took)

pub no_title : (bytes : List ℕ) (taken : ℕ) → NoneTaken IsTitle bytes → IsFormStop AreFront bytes taken (taken + 1)
no_title bytes taken none =
    both_stop_first (OneLine IsTitle) (λ said. OneLine IsProfile) title_one (λ said t p. (a_profile, profile_text a_profile ∷ [], record { line = profile_text a_profile; lines_are = refl; says = profile_is })) bytes taken (taken + 1)
    (line_stops IsTitle tt (codes "journal 1") refl bytes taken none)

pub no_profile : (bytes : List ℕ) (taken : ℕ) (rest : List ℕ) → IsFirstLineTaken IsTitle bytes tt rest → NoneTaken IsProfile rest → IsFormStop AreFront bytes taken (taken + 1 + 1)
no_profile bytes taken rest title none =
    both_stop_second (OneLine IsTitle) (λ said. OneLine IsProfile) title_one bytes taken tt rest (taken + 1) (taken + 1 + 1) (line_read IsTitle bytes taken tt rest title)
    (line_stops IsProfile a_profile (profile_text a_profile) profile_is rest (taken + 1) none)
