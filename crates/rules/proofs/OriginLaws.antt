-- The list of the strings that an accepted call hashed is the right one (specs/Hashed.antt): every
-- value that the call works out, and so every one that acceptance compares, is the digest of a
-- listed string, a kept value, a given node, or zeros; and every listed string was hashed to a
-- value that the call works out.
use mathlib.Core.Path.{◌≡◌, refl, sym, subst}
use mathlib.Core.Logic.{⊎_elim}
use mathlib.Core.Bool.{false}
use mathlib.Core.List.Memᴰ
use mathlib.Core.List.{List, ◌++◌, flat_map, Memᴰ}
use borrow.Author.Tests.{not-false}
use Rattle.lists.specs.Lists.{Bytes}
use Rattle.lists.proofs.MemberLaws.{listed-flat}
use Rattle.hash.specs.Sha256.{sha256}
use Rattle.hash.specs.Hmac.{inner_string, hmac}
use Rattle.tree.specs.LogTree.{Walk, value, walk_strings}
use Rattle.tree.specs.PrefixTree.{lookup_root}
use Rattle.tree.proofs.OriginLaws.{Origin, digest, PartOf, whole, part-origin, walk_string, PartAgrees}
use Rattle.tree.proofs.OriginLaws.{parts_met, met_parts, OfLookup, root_of_lookup, lookup-origin}
use Rattle.tree.proofs.OriginLaws.{lookup_string}
use Rattle.rules.specs.VrfOutputs.{output_of}
use Rattle.rules.specs.Response.{Target, Finding, searched, monitored, Lookup, Entry, target_of}
use Rattle.rules.specs.Commitment.{commitment_key, commitment_value, commitment_to, commitment_strings}
use Rattle.rules.specs.Refusals.{Call, known, log_walk, log_root, terminal, history_differs}
use Rattle.rules.specs.Hashed.{hashed_by_lookup, hashed_by_entry, hashed_for_target, hashed}
use Rattle.rules.proofs.HashedLaws.{walk_listed, lookup_listed, strings_listed}

-- the values that a call works out: of the parts of its walk, on the ways of its lookups, and
-- HMAC's inner digest and code for the target
pub data WorkedOut (c : Call) : Bytes → Type 0 where
  in-walk : {w : Walk} {ms : List Bytes} → PartOf (log_walk c) c.parts.nodes w ms → WorkedOut c (value (known c) w ms)
  in-lookup : {v : Bytes} (e : Entry) (l : Lookup) → Memᴰ e c.parts.entries → Memᴰ l e.lookups
      → OfLookup (output_of c.outputs l.version) (terminal c l.version l.result) l.siblings v → WorkedOut c v
  inner : (t : Target) → c.parts.finding ≡ searched t
      → WorkedOut c (sha256 (inner_string commitment_key (commitment_value t.opening c.parts.label t.value)))
  code : (t : Target) → c.parts.finding ≡ searched t → WorkedOut c (commitment_to t.opening c.parts.label t.value)

-- ---- what acceptance compares is worked out

-- 12 compares the root that a lookup leads to with the prefix root of its entry
pub lookup_compared : (c : Call) (e : Entry) (l : Lookup) → Memᴰ e c.parts.entries → Memᴰ l e.lookups
    → WorkedOut c (lookup_root (output_of c.outputs l.version) (terminal c l.version l.result) l.siblings)
lookup_compared c e l i j = in-lookup e l i j (root_of_lookup (output_of c.outputs l.version) (terminal c l.version l.result) l.siblings)

-- 14 compares the values of the parts of the walk with the kept ones, these and no others
pub history_compared : (c : Call) {w : Walk} {ms : List Bytes} → history_differs c ≡ false → PartOf (log_walk c) c.parts.nodes w ms → PartAgrees (known c) w ms
unfolding history_differs
history_compared c e p = met_parts (known c) (not-false _ e) p

pub compared_history : (c : Call) → ((w : Walk) (ms : List Bytes) → PartOf (log_walk c) c.parts.nodes w ms → PartAgrees (known c) w ms)
    → history_differs c ≡ false
unfolding history_differs
compared_history c h = rw (parts_met (known c) (log_walk c) c.parts.nodes h) refl

-- 15 compares a text that the log root stands in
pub root_compared : (c : Call) → WorkedOut c (log_root c)
unfolding log_root
root_compared c = in-walk whole

-- ---- where it comes from

-- from the strings that the call hashed, the kept values and the nodes
pub origin : (c : Call) (v : Bytes) → WorkedOut c v → Origin (hashed c) (c.state.log.values ++ c.parts.nodes) v
unfolding known hashed_by_lookup commitment_strings commitment_to hmac
origin c v (in-walk p) =
    part-origin (known c) (hashed c) (c.state.log.values ++ c.parts.nodes) (λ x m. Memᴰ.append_left c.parts.nodes m) p (walk_listed c)
    (λ x m. Memᴰ.append_right c.state.log.values m)
origin c v (in-lookup e l i j w) = lookup-origin (hashed c) (c.state.log.values ++ c.parts.nodes) _ _ _ v (lookup_listed c e l i j) w
origin c v (inner t f) = digest _ (strings_listed c t f _ (Memᴰ.head refl)) refl
origin c v (code t f) = digest _ (strings_listed c t f _ (Memᴰ.tail (Memᴰ.head refl))) refl

-- ---- what the strings are for

-- each listed string was hashed to a value that the call works out: one of the walk
walk_used : (c : Call) (x : Bytes) → Memᴰ x (walk_strings (known c) (log_walk c) c.parts.nodes) → WorkedOut c (sha256 x)
walk_used c x m = let h = walk_string (known c) (log_walk c) c.parts.nodes x m in subst (WorkedOut c) h.is-value (in-walk h.is-part)

-- one of a lookup
lookup_used : (c : Call) (x : Bytes) → Memᴰ x (flat_map (hashed_by_entry c) c.parts.entries) → WorkedOut c (sha256 x)
unfolding hashed_by_entry hashed_by_lookup
lookup_used c x m =
    let (e, i, k) = listed-flat (hashed_by_entry c) c.parts.entries x m in
    let (l, j, n) = listed-flat (hashed_by_lookup c) e.lookups x k in
    in-lookup e l i j (lookup_string (output_of c.outputs l.version) (terminal c l.version l.result) l.siblings x n)

-- one of HMAC
finding_used : (c : Call) (f : Finding) → c.parts.finding ≡ f → (x : Bytes) → Memᴰ x (hashed_for_target (target_of f) c.parts.label) → WorkedOut c (sha256 x)
unfolding hashed_for_target target_of commitment_strings commitment_to hmac
finding_used c monitored q x m = absurd (Memᴰ.not-nil m)
finding_used c (searched t) q x m =
    ⊎_elim (λ e. subst (λ (y : Bytes). WorkedOut c (sha256 y)) (sym e) (inner t q))
    (λ n.
    ⊎_elim (λ e. subst (λ (y : Bytes). WorkedOut c (sha256 y)) (sym e) (code t q)) (λ k. absurd (Memᴰ.not-nil k)) (Memᴰ.cases_cons n))
    (Memᴰ.cases_cons m)

pub string_used : (c : Call) (x : Bytes) → Memᴰ x (hashed c) → WorkedOut c (sha256 x)
unfolding hashed
string_used c x m =
    ⊎_elim
    (λ n. ⊎_elim (walk_used c x) (lookup_used c x) (Memᴰ.append_cases (walk_strings (known c) (log_walk c) c.parts.nodes) n))
    (finding_used c c.parts.finding refl x)
    (Memᴰ.append_cases (walk_strings (known c) (log_walk c) c.parts.nodes ++ flat_map (hashed_by_entry c) c.parts.entries) m)
