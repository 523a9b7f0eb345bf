-- A response as text: the forms of its lines, how it is read and written (paper 01, Response
-- lines).
use Rattle.std.specs.Prelude.{◌&&◌, ◌||◌, ℕ, ◌*◌, ◌/◌, ◌%◌, eqb, leb, length}
use mathlib.Core.List.{List, [], ◌∷◌, ◌++◌, flat_map, flatten}
use Rattle.std.proofs.Math.Option.{Option, none, some, get_or, map, bind as ◌>>=◌}
use Rattle.lists.specs.Choice.{or_else, ◌>>◌}
use Rattle.lists.specs.Lists.{Bytes, runs}
use Rattle.lines.specs.Number.{ascii}
use Rattle.lines.specs.Field.{Field, number, bytes, exactly, up_to}
use Rattle.lines.specs.Line.{Form, Read, read_lines, read_line, leading, write_line}
use Rattle.rules.specs.Limits.{label_limit, value_limit, sibling_limit, identifier_length, hash_length}
use Rattle.rules.specs.Limits.{vrf_output_length, opening_length, number_bound, version_bound}
use Rattle.rules.specs.Response.{Kind, search, monitor, Finding, searched, monitored, Step, Result}
use Rattle.rules.specs.Response.{included, absent, other_leaf, Lookup, Entry, Parts, kind_of}

-- ---- the fields

abbrev pub version_field : Field
version_field = number version_bound

-- a commitment, or `-`
abbrev pub commitment_field : Field
commitment_field = bytes (λ (n : ℕ). eqb n 0 || eqb n hash_length)

-- siblings, their hex joined
abbrev pub siblings_field : Field
siblings_field = bytes (λ (n : ℕ). eqb (n % hash_length) 0 && leb n (sibling_limit * hash_length))

-- ---- the lines

abbrev pub kind_word : Kind → Bytes
kind_word search = ascii "search"
kind_word monitor = ascii "monitor"

abbrev pub kt_form : Kind → Form
kt_form kind =
    record {
      words = ascii "kt" ∷ kind_word kind ∷ [];
      fields = exactly identifier_length ∷ up_to label_limit ∷ [];
    }

abbrev pub head_form : Form
head_form = record { words = ascii "head" ∷ []; fields = number number_bound ∷ [] }

abbrev pub target_form : Form
target_form =
    record {
      words = ascii "target" ∷ [];
      fields = version_field ∷ exactly opening_length ∷ up_to value_limit ∷ [];
    }

abbrev pub step_form : Form
step_form = record { words = ascii "step" ∷ []; fields = version_field ∷ commitment_field ∷ [] }

abbrev pub entry_form : Form
entry_form =
    record {
      words = ascii "entry" ∷ [];
      fields = number number_bound ∷ number number_bound ∷ exactly hash_length ∷ [];
    }

abbrev pub in_form : Form
in_form = record { words = ascii "in" ∷ []; fields = version_field ∷ siblings_field ∷ [] }

abbrev pub no_form : Form
no_form = record { words = ascii "no" ∷ []; fields = version_field ∷ siblings_field ∷ [] }

abbrev pub nl_form : Form
nl_form =
    record {
      words = ascii "nl" ∷ [];
      fields = version_field ∷ exactly vrf_output_length ∷ exactly hash_length ∷ siblings_field ∷ [];
    }

abbrev pub node_form : Form
node_form = record { words = ascii "node" ∷ []; fields = exactly hash_length ∷ [] }

abbrev pub end_form : Form
end_form = record { words = ascii "end" ∷ []; fields = [] }

-- ---- reading

unfoldable pub read_siblings : Bytes → List Bytes
read_siblings s = runs (length s / hash_length) hash_length s

unfoldable pub read_commitment : Bytes → Option Bytes
read_commitment [] = none
read_commitment (b ∷ s) = some (b ∷ s)

unfoldable pub read_step : Bytes → Option Step
read_step l = do
  (v, (c, _)) ← read_line step_form l
  some (record { version = v; commitment = read_commitment c })

unfoldable pub read_in : Bytes → Option Lookup
read_in l = do
  (v, (ss, _)) ← read_line in_form l
  some (record { version = v; result = included; siblings = read_siblings ss })

unfoldable pub read_no : Bytes → Option Lookup
read_no l = do
  (v, (ss, _)) ← read_line no_form l
  some (record { version = v; result = absent; siblings = read_siblings ss })

unfoldable pub read_nl : Bytes → Option Lookup
read_nl l = do
  (v, (o, (c, (ss, _)))) ← read_line nl_form l
  some (record { version = v; result = other_leaf o c; siblings = read_siblings ss })

unfoldable pub read_node : Bytes → Option Bytes
read_node l = do
  (v, _) ← read_line node_form l
  some v

-- an entry line without its lookups, or a lookup line
pub data Item : Type 0 where
  entry_item : Entry → Item
  lookup_item : Lookup → Item

unfoldable pub read_entry_line : Bytes → Option Item
read_entry_line l = do
  (p, (t, (r, _))) ← read_line entry_form l
  some (entry_item (record { position = p; timestamp = t; prefix_root = r; lookups = [] }))

unfoldable pub read_item : Bytes → Option Item
read_item l =
    or_else (read_entry_line l) (map lookup_item (or_else (read_in l) (or_else (read_no l) (read_nl l))))

-- lookups that follow no entry, and the entries, each with the lookups that follow it
unfoldable pub grouped : List Item → List Lookup × List Entry
grouped [] = ([], [])
grouped (lookup_item l ∷ is) = (l ∷ (grouped is).0, (grouped is).1)
grouped (entry_item e ∷ is) = (
  [],
  record {
    position = e.position;
    timestamp = e.timestamp;
    prefix_root = e.prefix_root;
    lookups = (grouped is).0;
  } ∷ (grouped is).1,
)

-- the steps, the entries with their lookups, the nodes, `end`, and nothing more
unfoldable pub read_body : Bytes → Bytes → ℕ → Finding → List Bytes → Option Parts
read_body identifier label n finding ls = do
  let (steps, ls1) = leading read_step ls
  let (items, ls2) = leading read_item ls1
  let (nodes, ls3) = leading read_node ls2
  let (ends, ls4) = leading (read_line end_form) ls3
  let (loose, entries) = grouped items
  eqb (length ends) 1 && eqb (length ls4) 0 && eqb (length loose) 0
  some (record {
    identifier = identifier;
    label = label;
    tree_size = n;
    finding = finding;
    steps = steps;
    entries = entries;
    nodes = nodes;
  })

-- a search has its target line first
unfoldable pub read_rest : Kind → Bytes → Bytes → ℕ → List Bytes → Option Parts
read_rest monitor identifier label n ls = read_body identifier label n monitored ls
read_rest search identifier label n [] = none
read_rest search identifier label n (l ∷ ls) = do
  (t, (opening, (value, _))) ← read_line target_form l
  read_body identifier label n (searched (record { version = t; opening = opening; value = value })) ls

unfoldable pub read_kind_line : Kind → Bytes → Option (Kind × Read (kt_form search))
read_kind_line kind l = map (λ (r : Read (kt_form search)). (kind, r)) (read_line (kt_form kind) l)

unfoldable pub read_parts : List Bytes → Option Parts
read_parts [] = none
read_parts (l ∷ []) = none
read_parts (l ∷ h ∷ ls) = do
  (kind, (identifier, (label, _))) ← or_else (read_kind_line search l) (read_kind_line monitor l)
  (n, _) ← read_line head_form h
  read_rest kind identifier label n ls

unfoldable pub read_response : Bytes → Option Parts
read_response s = do
  ls ← read_lines s
  read_parts ls

-- ---- writing

unfoldable pub write_target : Finding → Bytes
write_target (searched t) = write_line target_form (t.version, (t.opening, (t.value, tt)))
write_target monitored = []

unfoldable pub write_step : Step → Bytes
write_step s = write_line step_form (s.version, (get_or s.commitment [], tt))

unfoldable pub write_result : ℕ → Result → Bytes → Bytes
write_result v included ss = write_line in_form (v, (ss, tt))
write_result v absent ss = write_line no_form (v, (ss, tt))
write_result v (other_leaf o c) ss = write_line nl_form (v, (o, (c, (ss, tt))))

unfoldable pub write_lookup : Lookup → Bytes
write_lookup l = write_result l.version l.result (flatten l.siblings)

unfoldable pub write_entry : Entry → Bytes
write_entry e =
    write_line entry_form (e.position, (e.timestamp, (e.prefix_root, tt)))
    ++ flat_map write_lookup e.lookups

unfoldable pub write_node : Bytes → Bytes
write_node v = write_line node_form (v, tt)

unfoldable pub write_response : Parts → Bytes
write_response p =
    write_line (kt_form (kind_of p.finding)) (p.identifier, (p.label, tt))
    ++ write_line head_form (p.tree_size, tt) ++ write_target p.finding
    ++ flat_map write_step p.steps ++ flat_map write_entry p.entries ++ flat_map write_node p.nodes
    ++ write_line end_form tt
