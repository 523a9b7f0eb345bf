-- What reading a response yields (specs/ResponseText.antt): every byte string has bytes, and
-- numbers and strings keep the limits of their fields.
use mathlib.Core.Path.{◌≡◌, refl, subst}
use mathlib.Core.Logic.{⊎_elim}
use mathlib.Core.List.{List, [], ◌∷◌, Memᴰ}
use mathlib.Core.Option.{Option, none, some, map, some-injective, none-ne-some}
use Prim.Native.Nat.{ℕ, ◌/◌, ◌≤◌}
use native.Mathlib.Omega.{arith}
use lib.ListN.{length}
use borrow.Author.Tests.{leb-true, eqb-true}
use Rattle.lists.specs.Choice.{or_else}
use Rattle.lists.specs.Lists.{Bytes}
use Rattle.lists.proofs.ChoiceLaws.{test_some, bind_some, map_some, or_else_some}
use Rattle.lists.proofs.MemberLaws.{each_nil, each-cons}
use Rattle.hash.specs.Bytes.{AreBytes}
use Rattle.lines.specs.Line.{Read, read_lines, read_line, leading}
use Rattle.lines.proofs.LineLaws.{line_read, leading-each}
use Rattle.tree.proofs.CollisionLaws.{Sized, ByteStrings}
use Rattle.tree.proofs.RunLaws.{runs-sized, runs_bytes}
use Rattle.rules.specs.Limits.{hash_length, vrf_output_length, number_bound, opening_length, value_limit}
use Rattle.rules.specs.Response.{Kind, search, monitor, Target, Finding, searched, monitored, Step}
use Rattle.rules.specs.Response.{Result, included, absent, other_leaf, Lookup, Entry, Parts}
use Rattle.rules.specs.ResponseText.{kt_form, head_form, target_form, step_form, entry_form, in_form, no_form}
use Rattle.rules.specs.ResponseText.{nl_form, node_form, read_siblings, read_commitment, read_step, read_in}
use Rattle.rules.specs.ResponseText.{read_no, read_nl, read_node}
use Rattle.rules.specs.ResponseText.{Item, entry_item, lookup_item, read_entry_line, read_item, grouped}
use Rattle.rules.specs.ResponseText.{read_body, read_rest, read_kind_line, read_parts, read_response}

-- ---- steps

-- a commitment that is there has bytes
abbrev pub CommitmentFits : Option Bytes → Type 0
CommitmentFits none = Unit {0}
CommitmentFits (some c) = AreBytes c

commitment_fits : (s : Bytes) → AreBytes s → CommitmentFits (read_commitment s)
unfolding read_commitment
commitment_fits [] h = tt
commitment_fits (b ∷ s) h = h

abbrev pub StepFits : Step → Type 0
StepFits s = CommitmentFits s.commitment

step_fits : (l : Bytes) (s : Step) → read_step l ≡ some s → StepFits s
unfolding read_step
step_fits l s e =
    let ((v, (c, _)), q, u) = bind_some (read_line step_form l) _ s e in
    let (_, (_, (h, _))) = line_read step_form l (v, (c, tt)) q in
    subst StepFits (some-injective _ s u) (commitment_fits c h.1)

-- ---- lookups

-- another leaf's output has the length of one, and its strings have bytes
abbrev pub OtherLeafFits : Result → Type 0
OtherLeafFits included = Unit {0}
OtherLeafFits absent = Unit {0}
OtherLeafFits (other_leaf o c) = (length o ≡ vrf_output_length) × AreBytes o × AreBytes c

-- and siblings are as long as a hash
pub record LookupFits (l : Lookup) : Type 0 where
  pub other : OtherLeafFits l.result
  pub sized : Sized l.siblings
  pub bytes : ByteStrings l.siblings

lookup_fits : (v : ℕ) (r : Result) (s : Bytes) → OtherLeafFits r → AreBytes s → LookupFits (record { version = v; result = r; siblings = read_siblings s })
unfolding read_siblings
lookup_fits v r s h b =
    record {
      other = h;
      sized = runs-sized (length s / hash_length) hash_length s (omega arith);
      bytes = runs_bytes (length s / hash_length) hash_length s b;
    }

in_fits : (l : Bytes) (k : Lookup) → read_in l ≡ some k → LookupFits k
unfolding read_in
in_fits l k e =
    let ((v, (s, _)), q, u) = bind_some (read_line in_form l) _ k e in
    let (_, (_, (h, _))) = line_read in_form l (v, (s, tt)) q in
    subst LookupFits (some-injective _ k u) (lookup_fits v included s tt h.1)

no_fits : (l : Bytes) (k : Lookup) → read_no l ≡ some k → LookupFits k
unfolding read_no
no_fits l k e =
    let ((v, (s, _)), q, u) = bind_some (read_line no_form l) _ k e in
    let (_, (_, (h, _))) = line_read no_form l (v, (s, tt)) q in
    subst LookupFits (some-injective _ k u) (lookup_fits v absent s tt h.1)

nl_fits : (l : Bytes) (k : Lookup) → read_nl l ≡ some k → LookupFits k
unfolding read_nl
nl_fits l k e =
    let ((v, (o, (c, (s, _)))), q, u) = bind_some (read_line nl_form l) _ k e in
    let (_, (_, (i, (j, (h, _))))) = line_read nl_form l (v, (o, (c, (s, tt)))) q in
    subst LookupFits (some-injective _ k u) (lookup_fits v (other_leaf o c) s (eqb-true (length o) vrf_output_length i.0, i.1, j.1) h.1)

-- ---- entries

-- an entry's time is in its bound, and its prefix root has bytes
pub record EntryFits (e : Entry) : Type 0 where
  pub timestamp : e.timestamp ≤ number_bound
  pub root : AreBytes e.prefix_root
  pub lookups : (l : Lookup) → Memᴰ l e.lookups → LookupFits l

abbrev ItemFits : Item → Type 0
ItemFits (entry_item e) = EntryFits e
ItemFits (lookup_item l) = LookupFits l

entry_line_fits : (l : Bytes) (i : Item) → read_entry_line l ≡ some i → ItemFits i
unfolding read_entry_line
entry_line_fits l i e =
    let ((p, (t, (r, _))), q, u) = bind_some (read_line entry_form l) _ i e in
    let (_, (_, (h, (b, _)))) = line_read entry_form l (p, (t, (r, tt))) q in
    subst ItemFits (some-injective _ i u) (record { timestamp = h; root = b.1; lookups = each_nil LookupFits })

item_fits : (l : Bytes) (i : Item) → read_item l ≡ some i → ItemFits i
unfolding read_item
item_fits l i e = ⊎_elim (entry_line_fits l i) found (or_else_some (read_entry_line l) (map lookup_item (or_else (read_in l) (or_else (read_no l) (read_nl l)))) i e)
  where
    found : map lookup_item (or_else (read_in l) (or_else (read_no l) (read_nl l))) ≡ some i → ItemFits i
    found q =
        let (k, r, w) = map_some lookup_item (or_else (read_in l) (or_else (read_no l) (read_nl l))) i q in
        subst ItemFits w
        (⊎_elim (in_fits l k) (λ s. ⊎_elim (no_fits l k) (nl_fits l k) (or_else_some (read_no l) (read_nl l) k s))
        (or_else_some (read_in l) (or_else (read_no l) (read_nl l)) k r))

-- lookups and entries to which items are grouped
grouped_fit : (is : List Item) → ((i : Item) → Memᴰ i is → ItemFits i)
    → ((l : Lookup) → Memᴰ l (grouped is).0 → LookupFits l) × ((e : Entry) → Memᴰ e (grouped is).1 → EntryFits e)
unfolding grouped
grouped_fit [] h = (each_nil LookupFits, each_nil EntryFits)
grouped_fit (lookup_item l ∷ is) h =
    let (f, g) = grouped_fit is (λ i m. h i (Memᴰ.tail m)) in
    (each-cons LookupFits l (grouped is).0 (h (lookup_item l) (Memᴰ.head refl)) f, g)
grouped_fit (entry_item e ∷ is) h =
    let (f, g) = grouped_fit is (λ i m. h i (Memᴰ.tail m)) in
    let x = h (entry_item e) (Memᴰ.head refl) in (
      each_nil LookupFits,
      each-cons EntryFits (record { position = e.position; timestamp = e.timestamp; prefix_root = e.prefix_root; lookups = (grouped is).0 }) (grouped is).1
          (record { timestamp = x.timestamp; root = x.root; lookups = f }) g,
    )

-- ---- nodes

abbrev NodeFits : Bytes → Type 0
NodeFits v = (length v ≡ hash_length) × AreBytes v

node_fits : (l v : Bytes) → read_node l ≡ some v → NodeFits v
unfolding read_node
node_fits l v e =
    let ((w, _), q, u) = bind_some (read_line node_form l) _ v e in
    let (_, (h, _)) = line_read node_form l (w, tt) q in
    subst NodeFits (some-injective w v u) (eqb-true _ _ h.0, h.1)

-- ---- all parts

-- the target of a search has the lengths that its line's form asks for
pub record TargetFits (t : Target) : Type 0 where
  pub opening : length t.opening ≡ opening_length
  pub value : length t.value ≤ value_limit
  pub opening_bytes : AreBytes t.opening
  pub value_bytes : AreBytes t.value

abbrev pub FindingFits : Finding → Type 0
FindingFits (searched t) = TargetFits t
FindingFits monitored = Unit {0}

pub record PartsFit (p : Parts) : Type 0 where
  pub label : AreBytes p.label
  pub finding : FindingFits p.finding
  pub steps : (s : Step) → Memᴰ s p.steps → StepFits s
  pub entries : (e : Entry) → Memᴰ e p.entries → EntryFits e
  pub nodes : Sized p.nodes
  pub node_bytes : ByteStrings p.nodes

-- what is read after the target line
body_fits : (identifier label : Bytes) (n : ℕ) (f : Finding) (ls : List Bytes) (p : Parts) → AreBytes label → FindingFits f
    → read_body identifier label n f ls ≡ some p → PartsFit p
unfolding read_body
body_fits identifier label n f ls p b h e =
    let ls1 = (leading read_step ls).1 in
    let ls2 = (leading read_item ls1).1 in
    let is = (leading read_item ls1).0 in
    subst PartsFit (some-injective _ p (test_some _ _ p e).1)
    (record {
      label = b;
      finding = h;
      steps = leading-each read_step StepFits step_fits ls;
      entries = (grouped_fit is (leading-each read_item ItemFits item_fits ls1)).1;
      nodes = λ v m. (leading-each read_node NodeFits node_fits ls2 v m).0;
      node_bytes = λ v m. (leading-each read_node NodeFits node_fits ls2 v m).1;
    })

-- after the first two lines
rest_fits : (kind : Kind) (identifier label : Bytes) (n : ℕ) (ls : List Bytes) (p : Parts) → AreBytes label → read_rest kind identifier label n ls ≡ some p
    → PartsFit p
unfolding read_rest
rest_fits monitor identifier label n ls p b e = body_fits identifier label n monitored ls p b tt e
rest_fits search identifier label n [] p b e = absurd (none-ne-some p e)
rest_fits search identifier label n (l ∷ ls) p b e =
    let ((v, (o, (x, _))), r, t) = bind_some (read_line target_form l) _ p e in
    let (_, (_, (i, (j, _)))) = line_read target_form l (v, (o, (x, tt))) r in
    body_fits identifier label n (searched (record { version = v; opening = o; value = x })) ls p b
    (record { opening = eqb-true _ _ i.0; value = leb-true _ _ j.0; opening_bytes = i.1; value_bytes = j.1 }) t

-- the label of the first line has bytes
kind_line_fits : (k : Kind) (l : Bytes) (x : Kind × Read (kt_form search)) → read_kind_line k l ≡ some x → AreBytes x.1.1.0
unfolding read_kind_line
kind_line_fits k l x e =
    let ((i, (b, _)), q, u) = map_some (λ (r : Read (kt_form search)). (k, r)) (read_line (kt_form k) l) x e in
    let (_, (_, (h, _))) = line_read (kt_form k) l (i, (b, tt)) q in
    subst (λ (y : Kind × Read (kt_form search)). AreBytes y.1.1.0) u h.1

-- all lines
parts_fit : (ls : List Bytes) (p : Parts) → read_parts ls ≡ some p → PartsFit p
unfolding read_parts
parts_fit [] p e = absurd (none-ne-some p e)
parts_fit (l ∷ []) p e = absurd (none-ne-some p e)
parts_fit (l ∷ h ∷ ls) p e =
    let ((kind, (identifier, (label, _))), k, t) = bind_some (or_else (read_kind_line search l) (read_kind_line monitor l)) _ p e in
    let ((n, _), _, u) = bind_some (read_line head_form h) _ p t in
    let b = ⊎_elim (kind_line_fits search l (kind, (identifier, (label, tt)))) (kind_line_fits monitor l (kind, (identifier, (label, tt))))
    (or_else_some (read_kind_line search l) (read_kind_line monitor l) (kind, (identifier, (label, tt))) k) in
    rest_fits kind identifier label n ls p b u

-- a response that reads
pub response_fits : (s : Bytes) (p : Parts) → read_response s ≡ some p → PartsFit p
unfolding read_response
response_fits s p e = let (ls, _, t) = bind_some (read_lines s) read_parts p e in parts_fit ls p t
