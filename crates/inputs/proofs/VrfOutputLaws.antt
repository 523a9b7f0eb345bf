-- Laws of the VRF outputs: records by their numbers (specs/VrfOutputs.antt), whether versions rise,
-- and the search for a version by halving.
use mathlib.Core.Path.{◌≡◌, refl, sym, ◌∙◌, ap, ap₂, subst}
use mathlib.Core.Logic.{◌⊎◌, inl, inr, ⊎_elim}
use mathlib.Core.Bool.{Bool, true, false, ◌&&◌, false≢true}
use mathlib.Core.List.Memᴰ
use mathlib.Core.List.{List, [], ◌∷◌, map, Memᴰ}
use mathlib.Core.Option.{Option, Option-elim, none, some}
use Prim.Native.Nat.{ℕ, zero, suc, ◌+◌, ◌-◌, ◌*◌, ◌^◌, ◌/◌, ◌%◌, ◌≤◌, ◌<◌}
use native.Mathlib.Omega.{arith}
use lib.Dec.{eqb, ltb}
use lib.ListN.{length, take, drop, get_or, length-map, length-drop, get_or-map}
use lib.Seq.{drop-drop}
use borrow.Author.Tests.{eq-eqb, ne_eqb, eqb-true, lt-ltb, le-ltb, ltb-true, ltb-false}
use Rattle.lists.specs.Choice.{is_some}
use Rattle.lists.specs.Lists.{Bytes, select, first, rising, runs}
use Rattle.lists.proofs.ChoiceLaws.{given_first, given_provided, provided_some, and_holds}
use Rattle.lists.proofs.ListLaws.{at_member, member_at, first_here, first_later, mapped_at, any_at}
use Rattle.lists.proofs.ListLaws.{select_here, select_later, select_fewer}
use Rattle.lists.proofs.RisingLaws.{rising_at, rising_two, short_rises, rising_first, rising_tail}
use Rattle.lines.proofs.OffsetLaws.{at_cons}
use Rattle.rules.specs.Limits.{vrf_output_length}
use Rattle.rules.specs.Encoding.{uint, bytes_after}
use Rattle.rules.specs.VrfOutputs.{VrfOutput, record_length, read_record, read_records, read_outputs, has_output}
use Rattle.rules.specs.VrfOutputs.{output_of}
use Rattle.tree.proofs.DigitLaws.{by_order}
use Rattle.tree.proofs.RunLaws.{length_runs, mapped-run, runs-at, drop-take}
use Rattle.inputs.specs.VrfOutputs.{record_at, found_output, record_of, records_below, IsRecordOf}
use Rattle.inputs.specs.VrfOutputs.{IsOfSomeRecord}
use Rattle.std.specs.Prelude.{Some, None, is_some as is_given, Option as CodeOption}
use Rattle.std.specs.List.{IsAllAdjacentAnswer}
use Rattle.std.specs.Simd.{first_chunks}
use Rattle.inputs.specs.declared.vrf_outputs.FoundOutput.{FoundOutput}

-- ---- the records

-- the version of a record
abbrev pub version_in : VrfOutput → ℕ
version_in x = x.version

-- it is below another
abbrev smaller : ℕ → VrfOutput → Bool
smaller v x = ltb x.version v

-- there are as many records as have room
length_records : (s : Bytes) → length (read_records s) ≡ length s / record_length
unfolding read_records
length_records s = length-map (runs (length s / record_length) record_length s) read_record
    ∙ length_runs (length s / record_length) record_length s

-- the record with a number below theirs is the one at its offset
record_at_lem : (s : Bytes) (i : ℕ) (d : VrfOutput) → i < length s / record_length → get_or (read_records s) i d
    ≡ record_at s i
unfolding read_records record_at
record_at_lem s i d h = mapped-run read_record (length s / record_length) record_length s i d h

-- the chunks of so many bytes are the first runs
chunk_runs : (n k : ℕ) (s : Bytes) → first_chunks k n s ≡ runs n k s
unfolding runs
chunk_runs zero k s = refl
chunk_runs (suc n) k s = ap (λ (rs : List Bytes). take k s ∷ rs) (chunk_runs n k (drop k s))

-- so a chunk of a record's bytes is the record with its number
pub chunk_at : (s : Bytes) (cs : List Bytes) (i : ℕ) (d : Bytes) → cs
    ≡ first_chunks record_length (length s / record_length) s → i < length s / record_length
    → read_record (get_or cs i d) ≡ record_at s i
unfolding record_at
chunk_at s cs i d e h =
    ap (λ (rs : List Bytes). read_record (get_or rs i d)) (e ∙ chunk_runs (length s / record_length) record_length s)
    ∙ ap read_record (runs-at (length s / record_length) record_length s i d h)

-- the version of a record is encoded by its first four bytes
pub version_bytes : (t : Bytes) → 4 ≤ length t → (read_record t).version
    ≡ get_or t 0 0 * 2 ^ 24 + get_or t 1 0 * 2 ^ 16 + get_or t 2 0 * 2 ^ 8 + get_or t 3 0
unfolding read_record uint bytes_after
version_bytes (a ∷ b ∷ c ∷ d ∷ t) h = omega arith
version_bytes [] h = absurd (omega arith)
version_bytes (a ∷ []) h = absurd (omega arith)
version_bytes (a ∷ b ∷ []) h = absurd (omega arith)
version_bytes (a ∷ b ∷ c ∷ []) h = absurd (omega arith)

-- the output of a record is the bytes after them
pub output_bytes : (s : Bytes) (i : ℕ)
    → (record_at s i).output ≡ take vrf_output_length (drop (record_length * i + 4) s)
unfolding record_at read_record
output_bytes s i =
    drop-take 4 vrf_output_length (drop (record_length * i) s)
    ∙ ap (take vrf_output_length) (drop-drop 4 (record_length * i) s)

-- it is among the records
record_listed : (s : Bytes) (i : ℕ) → i < length s / record_length → Memᴰ (record_at s i) (read_records s)
record_listed s i h =
    let d = record_at s i in
    subst (λ (x : VrfOutput). Memᴰ x (read_records s)) (record_at_lem s i d h)
    (at_member (read_records s) i d (omega (arith, length_records s)))

-- each of the records is one with a number
listed_record : (s : Bytes) (x : VrfOutput) → Memᴰ x (read_records s) → (i : ℕ) × (i < length s / record_length)
    × (record_at s i ≡ x)
listed_record s x m =
    let (i, h, e) = member_at (read_records s) x x m in
    let l : i < length s / record_length = omega (arith, length_records s) in
    (i, l, sym (record_at_lem s i x l) ∙ e)

-- ---- the versions

-- the versions in their order
unfoldable pub versions : Bytes → List ℕ
versions s = map version_in (read_records s)

-- there are as many as records
length_versions : (s : Bytes) → length (versions s) ≡ length s / record_length
unfolding versions
length_versions s = length-map (read_records s) version_in ∙ length_records s

-- the version with a number is that of the record with the number
version_at_lem : (s : Bytes) (i : ℕ) → i < length s / record_length → get_or (versions s) i 0 ≡ (record_at s i).version
unfolding versions
version_at_lem s i h =
    let d : VrfOutput = record { version = 0; output = [] } in
    get_or-map version_in (read_records s) i d ∙ ap version_in (record_at_lem s i d h)

-- outputs are read where they are whole records whose versions rise
outputs_given : (s : Bytes) → is_some (read_outputs s) ≡ (eqb (length s % record_length) 0 && rising (versions s))
unfolding read_outputs versions
outputs_given s =
    given_provided (eqb (length s % record_length) 0 && rising (map version_in (read_records s))) (read_records s)

-- so whole records are read where their versions rise
pub given_rises : (s : Bytes) → length s % record_length ≡ 0 → is_some (read_outputs s) ≡ rising (versions s)
given_rises s e = outputs_given s ∙ ap (λ (t : Bool). t && rising (versions s)) (eq-eqb (length s % record_length) 0 e)

-- and nothing is read where the last record is not whole
pub given_broken : (s : Bytes) → (length s % record_length ≡ 0 → ⊥) → is_some (read_outputs s) ≡ false
given_broken s h = outputs_given s ∙ ap (λ (t : Bool). t && rising (versions s)) (ne_eqb (length s % record_length) 0 h)

-- ---- whether they rise

-- a version and those after it
versions_from : (s : Bytes) (i : ℕ) → i < length s / record_length → drop i (versions s)
    ≡ (record_at s i).version ∷ drop (i + 1) (versions s)
versions_from s i h = at_cons (versions s) i (omega (arith, length_versions s))
    ∙ ap (λ (v : ℕ). v ∷ drop (i + 1) (versions s)) (version_at_lem s i h)

-- the versions from one on rise where it is below the next and those from the next on rise
rises_by : (s : Bytes) (i : ℕ) → i + 1 < length s / record_length
    → rising (drop i (versions s))
    ≡ (ltb (record_at s i).version (record_at s (i + 1)).version && rising (drop (i + 1) (versions s)))
rises_by s i h =
    rw (versions_from s i (omega arith), versions_from s (i + 1) h)
    (rising_two (record_at s i).version (record_at s (i + 1)).version (drop (i + 1 + 1) (versions s)))

-- so where it is below the next, they rise as those from the next on do
pub rises_on : (s : Bytes) (i : ℕ) → i + 1 < length s / record_length
    → (record_at s i).version < (record_at s (i + 1)).version
    → rising (drop i (versions s)) ≡ rising (drop (i + 1) (versions s))
rises_on s i h l = rises_by s i h ∙ rw (lt-ltb (record_at s i).version (record_at s (i + 1)).version l) refl

-- and where it is not, they do not rise
pub rises_not : (s : Bytes) (i : ℕ) → i + 1 < length s / record_length
    → (record_at s (i + 1)).version ≤ (record_at s i).version
    → rising (drop i (versions s)) ≡ false
rises_not s i h l = rises_by s i h ∙ rw (le-ltb (record_at s i).version (record_at s (i + 1)).version l) refl

-- the last version alone rises
pub rises_last : (s : Bytes) (i : ℕ) → length s / record_length ≤ i + 1 → rising (drop i (versions s)) ≡ true
rises_last s i h = short_rises (drop i (versions s)) (omega (arith, length-drop i (versions s), length_versions s))

-- ---- the record of a version

-- where outputs are read, they are the records, and their versions rise
outputs_read : (s : Bytes) (xs : List VrfOutput) → read_outputs s ≡ some xs → (rising (versions s) ≡ true)
    × (read_records s ≡ xs)
unfolding read_outputs versions
outputs_read s xs e =
    let t = eqb (length s % record_length) 0 in
    let u = rising (map version_in (read_records s)) in
    let (p, q) = provided_some (t && u) (read_records s) xs e in
    ((and_holds t u p).1, q)

-- a first record of the version is found
record_here : (x : VrfOutput) (xs : List VrfOutput) (v : ℕ) → x.version ≡ v → record_of (x ∷ xs) v ≡ some x
unfolding record_of
record_here x xs v e = first_here (λ (x : VrfOutput). eqb x.version v) x xs (eq-eqb x.version v e)

-- one of another version is passed over
record_later : (x : VrfOutput) (xs : List VrfOutput) (v : ℕ) → (x.version ≡ v → ⊥) → record_of (x ∷ xs) v
    ≡ record_of xs v
unfolding record_of
record_later x xs v h = first_later (λ (x : VrfOutput). eqb x.version v) x xs (ne_eqb x.version v h)

-- where none is of the version, none is found
record_none : (xs : List VrfOutput) (v : ℕ) → ((x : VrfOutput) → Memᴰ x xs → x.version ≡ v → ⊥) → record_of xs v ≡ none
unfolding record_of first
record_none [] v h = refl
record_none (x ∷ xs) v h = record_later x xs v (h x (Memᴰ.head refl)) ∙ record_none xs v (λ y m. h y (Memᴰ.tail m))

-- where versions rise, a record of the version is the one found
record_found : (xs : List VrfOutput) (x : VrfOutput) (v : ℕ) → rising (map version_in xs) ≡ true → Memᴰ x xs → x.version
    ≡ v
    → record_of xs v ≡ some x
record_found [] x v r m e = absurd (Memᴰ.not-nil m)
record_found (y ∷ ys) x v r m e =
    go (Memᴰ.cases_cons m) (λ k. record_found ys x v (rising_tail y.version (map version_in ys) r) k e)
  where
    go : (x ≡ y) ⊎ Memᴰ x ys → (Memᴰ x ys → record_of ys v ≡ some x) → record_of (y ∷ ys) v ≡ some x
    go (inl z) f = record_here y ys v (ap version_in (sym z) ∙ e) ∙ ap some (sym z)
    go (inr k) f =
        let below = rising_first y.version (map version_in ys) r x.version (mapped_at version_in ys x k) in
        record_later y ys v (λ q. omega arith) ∙ f k

-- a first record of a smaller version stands before
below_first : (x : VrfOutput) (xs : List VrfOutput) (v : ℕ) → x.version < v → records_below (x ∷ xs) v
    ≡ suc (records_below xs v)
unfolding records_below
below_first x xs v h = ap length (select_here (smaller v) x xs (lt-ltb x.version v h))

-- one that is not smaller does not
below_later : (x : VrfOutput) (xs : List VrfOutput) (v : ℕ) → v ≤ x.version → records_below (x ∷ xs) v
    ≡ records_below xs v
unfolding records_below
below_later x xs v h = ap length (select_later (smaller v) x xs (le-ltb x.version v h))

-- where none is smaller, none stands before
below_none : (xs : List VrfOutput) (v : ℕ) → ((x : VrfOutput) → Memᴰ x xs → v ≤ x.version) → records_below xs v ≡ 0
unfolding records_below select
below_none [] v h = refl
below_none (x ∷ xs) v h = below_later x xs v (h x (Memᴰ.head refl)) ∙ below_none xs v (λ y m. h y (Memᴰ.tail m))

-- where versions rise, as many records stand before one as its number says
pub records_before : (xs : List VrfOutput) (i v : ℕ) (d : VrfOutput) → rising (map version_in xs) ≡ true → i < length xs
    → (get_or xs i d).version ≡ v
    → records_below xs v ≡ i
records_before [] i v d r h e = absurd (omega arith)
records_before (x ∷ xs) zero v d r h e =
    below_later x xs v (omega arith)
    ∙ below_none xs v
    (λ y m. omega (arith, rising_first x.version (map version_in xs) r y.version (mapped_at version_in xs y m)))
records_before (x ∷ xs) (suc i) v d r h e =
    let m = mapped_at version_in xs (get_or xs i d) (at_member xs i d (omega arith)) in
    below_first x xs v (omega (arith, rising_first x.version (map version_in xs) r (get_or xs i d).version m))
    ∙ ap suc (records_before xs i v d (rising_tail x.version (map version_in xs) r) (omega arith) e)

-- fewer records are below a version than below a greater one, where the smaller has one
pub fewer_below : (xs : List VrfOutput) (u v : ℕ) → u < v → has_output xs u ≡ true
    → records_below xs u < records_below xs v
unfolding has_output records_below
fewer_below xs u v h e =
    let (a, m, q) = any_at (λ (x : VrfOutput). eqb x.version u) xs e in
    let z = eqb-true a.version u q in
    select_fewer (smaller u) (smaller v) xs a (λ x t. lt-ltb x.version v (omega (arith, ltb-true x.version u t))) m
    (le-ltb a.version u (omega arith)) (lt-ltb a.version v (omega arith))

-- ---- the search by halving

-- where versions rise, a record before another has a smaller one
version_rises : (s : Bytes) (i j : ℕ) → rising (versions s) ≡ true → i < j → j < length s / record_length
    → (record_at s i).version < (record_at s j).version
version_rises s i j r h l =
    omega (
      arith,
      rising_at (versions s) i j r h (omega (arith, length_versions s)),
      version_at_lem s i (omega arith),
      version_at_lem s j l,
    )

-- and one of a smaller version stands before the other
version_before : (s : Bytes) (i j : ℕ) → rising (versions s) ≡ true → i < length s / record_length
    → (record_at s i).version < (record_at s j).version → i < j
version_before s i j r h l = by_order i j (λ p. p) (λ p. absurd (not_after p))
  where
    not_after : j ≤ i → ⊥
    not_after p =
        by_order j i (λ q. omega (arith, version_rises s j i r q h)) (λ q. let e : i ≡ j = omega arith in
        omega (arith, ap (λ (n : ℕ). (record_at s n).version) e))

-- where versions rise, a record of version v has a number from low on and below high
abbrev pub Between : Bytes → ℕ → ℕ → ℕ → Type 0
Between s v low high =
    rising (versions s) ≡ true → (i : ℕ) → i < length s / record_length → (record_at s i).version ≡ v
    → (low ≤ i) × (i < high)

-- at first it may have any number
pub between_all : (s : Bytes) (v : ℕ) → Between s v 0 (length s / record_length)
between_all s v r i h e = (omega arith, h)

-- it stands after a record of a smaller version
pub between_above : (s : Bytes) (v low high m : ℕ) → m < length s / record_length → (record_at s m).version < v
    → Between s v low high → Between s v (m + 1) high
between_above s v low high m h l b r i k e = (omega (arith, version_before s m i r h (omega arith)), (b r i k e).1)

-- and before one of a greater version
pub between_below : (s : Bytes) (v low high m : ℕ) → v < (record_at s m).version → Between s v low high
    → Between s v low m
between_below s v low high m l b r i k e = ((b r i k e).0, version_before s i m r k (omega arith))

-- where versions rise, none is the version
abbrev pub NoneIs : Bytes → ℕ → Type 0
NoneIs s v = rising (versions s) ≡ true → (i : ℕ) → i < length s / record_length → (record_at s i).version ≡ v → ⊥

-- as where no number is left
pub none_between : (s : Bytes) (v low high : ℕ) → Between s v low high → high ≤ low → NoneIs s v
none_between s v low high b l r i h e = let p = b r i h e in omega arith

-- the version in a chunk
abbrev pub chunk_version : Bytes → ℕ
chunk_version t = (read_record t).version

-- ---- the versions of chunks, two at a time

module _ (s : Bytes) (cs : List Bytes) (e : cs
    ≡ first_chunks record_length (length s / record_length) s) (n : length cs ≡ length s / record_length) where
  -- the version in a chunk is that of the record with its number
  version_there : (i : ℕ) (d : Bytes) → i < length s / record_length
      → chunk_version (get_or cs i d) ≡ (record_at s i).version
  version_there i d h = ap version_in (chunk_at s cs i d e h)

  -- where each is below the next, the versions from one on rise as all do
  rise_as_all : ((k : ℕ) → k + 1 < length s / record_length → (record_at s k).version < (record_at s (k + 1)).version)
      → (i : ℕ) → i < length s / record_length → rising (versions s) ≡ rising (drop i (versions s))
  rise_as_all h zero l = refl
  rise_as_all h (suc i) l =
      let m : i + 1 ≡ suc i = omega arith in
      rise_as_all h i (omega arith)
      ∙ rises_on s i (omega arith) (h i (omega arith))
      ∙ ap (λ (k : ℕ). rising (drop k (versions s))) m

  -- so all rise
  rise-whole : ((k : ℕ) → k + 1 < length s / record_length → (record_at s k).version < (record_at s (k + 1)).version)
      → rising (versions s) ≡ true
  rise-whole h =
      let m = length s / record_length in
      by_order 1 m (λ l. rise_as_all h (m - 1) (omega arith) ∙ rises_last s (m - 1) (omega arith))
      (λ l. rises_last s 0 (omega arith))

  -- they rise where each chunk's version is below the next one's, and nowhere else
  pub rise_by_pairs : (r : Bool) → IsAllAdjacentAnswer (λ x y b. b ≡ ltb (chunk_version x) (chunk_version y)) cs r
      → r ≡ rising (versions s)
  rise_by_pairs true all = sym (rise-whole (λ k l.
      let a = version_there k [] (omega arith) in
      let b = version_there (k + 1) [] l in
      let t = ltb-true (chunk_version (get_or cs k [])) (chunk_version (get_or cs (k + 1) []))
      (sym (all k [] (omega arith))) in
      omega arith))
  rise_by_pairs false (k, l, broken) = go (rising (versions s)) refl
    where
      go : (b : Bool) → rising (versions s) ≡ b → false ≡ b
      go false q = refl
      go true q =
          let a = version_there k [] (omega arith) in
          let b = version_there (k + 1) [] (omega arith) in
          let t = ltb-false (chunk_version (get_or cs k [])) (chunk_version (get_or cs (k + 1) [])) (sym (broken [])) in
          let u = version_rises s k (k + 1) q (omega arith) (omega arith) in
          absurd (omega arith)

-- a record of the version is what was to be found
pub found_record : (s : Bytes) (v m : ℕ) (r : CodeOption FoundOutput) → m < length s / record_length
    → (record_at s m).version ≡ v → r ≡ found_output m (some (record_at s m))
    → IsRecordOf s v r × IsOfSomeRecord s v r
unfolding versions
found_record s v m r h e q = (λ xs p. q ∙ sym (found xs (outputs_read s xs p)), inr (m, h, e, q))
  where
    at : get_or (read_records s) m (record_at s m) ≡ record_at s m
    at = record_at_lem s m (record_at s m) h

    found : (xs : List VrfOutput) → (rising (versions s) ≡ true) × (read_records s ≡ xs)
        → found_output (records_below xs v) (record_of xs v) ≡ found_output m (some (record_at s m))
    found xs (u, w) =
        subst (λ (ys : List VrfOutput). found_output (records_below ys v) (record_of ys v)
        ≡ found_output m (some (record_at s m))) w
        (ap₂ found_output
        (records_before (read_records s) m v (record_at s m) u (omega (arith, length_records s)) (ap version_in at ∙ e))
        (record_found (read_records s) (record_at s m) v u (record_listed s m h) e))

-- where versions rise and none is the version, there is no record of it
pub found_nothing : (s : Bytes) (v : ℕ) (r : CodeOption FoundOutput) → NoneIs s v → r ≡ found_output 0 none
    → IsRecordOf s v r × IsOfSomeRecord s v r
unfolding found_output
found_nothing s v r b q =
    (λ xs p. q ∙ sym (ap (found_output (records_below xs v)) (nothing xs (outputs_read s xs p))), inl q)
  where
    other : rising (versions s) ≡ true → (x : VrfOutput) → Memᴰ x (read_records s) → x.version ≡ v → ⊥
    other u x m e = let (i, h, z) = listed_record s x m in b u i h (ap version_in z ∙ e)

    nothing : (xs : List VrfOutput) → (rising (versions s) ≡ true) × (read_records s ≡ xs) → record_of xs v ≡ none
    nothing xs (u, w) = ap (λ (ys : List VrfOutput). record_of ys v) (sym w) ∙ record_none (read_records s) v (other u)

-- ---- what is found

-- a record is found where the version has an output
pub found_has : (xs : List VrfOutput) (i v : ℕ) → is_given (found_output i (record_of xs v)) ≡ has_output xs v
unfolding has_output record_of found_output is_some
found_has xs i v = found-given (record_of xs v) ∙ given_first (λ (x : VrfOutput). eqb x.version v) xs
  where
    found-given : (o : Option VrfOutput) → is_given (found_output i o) ≡ is_some o
    found-given none = refl
    found-given (some x) = refl

-- and then it is that output, with the number told
pub found_output_lem : (xs : List VrfOutput) (i v : ℕ) → has_output xs v ≡ true
    → found_output i (record_of xs v) ≡ Some (record { index = i; output = output_of xs v })
unfolding output_of record_of has_output found_output is_some Option-elim
found_output_lem xs i v h = held (record_of xs v) (given_first (λ (x : VrfOutput). eqb x.version v) xs ∙ h)
  where
    held : (o : Option VrfOutput) → is_some o ≡ true
        → found_output i o ≡ Some (record { index = i; output = Option-elim o [] (λ x. x.output) })
    held none e = absurd (false≢true e)
    held (some x) e = refl

-- of outputs that read, whether one is found tells whether the version has one
pub found_is : (s : Bytes) (v : ℕ) (r : CodeOption FoundOutput) → IsRecordOf s v r → (xs : List VrfOutput)
    → read_outputs s ≡ some xs → has_output xs v ≡ is_given r
found_is s v r f xs e = sym (found_has xs (records_below xs v) v) ∙ ap is_given (sym (f xs e))

-- where none is found, it has none
pub found_none : (s : Bytes) (v : ℕ) → IsRecordOf s v None → (xs : List VrfOutput) → read_outputs s ≡ some xs
    → has_output xs v ≡ false
found_none s v f xs e = found_is s v None f xs e

-- one that is found is its output, with as many records before it as have smaller versions
pub found_some : (s : Bytes) (v : ℕ) (x : FoundOutput) → IsRecordOf s v (Some x) → (xs : List VrfOutput)
    → read_outputs s ≡ some xs
    → (has_output xs v ≡ true) × (x.output ≡ output_of xs v) × (x.index ≡ records_below xs v)
found_some s v x f xs e =
    let has : has_output xs v ≡ true = found_is s v (Some x) f xs e in
    let it = f xs e ∙ found_output_lem xs (records_below xs v) v has in
    (has, cc, cc)

-- of any bytes, its number is below the number of records
pub found_below : (s : Bytes) (v : ℕ) (x : FoundOutput) → IsOfSomeRecord s v (Some x)
    → x.index < length s / record_length
unfolding found_output
found_below s v x h = ⊎_elim (λ e. absurd (cc)) (λ (i, b, _, e). let k : x.index ≡ i = cc in omega arith) h
