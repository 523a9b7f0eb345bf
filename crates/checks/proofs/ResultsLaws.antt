-- The entries of a response, judged one after the other (specs/Lookups.antt).
use mathlib.Core.Path.{◌≡◌, refl, sym, ◌∙◌, ap, ap₂, subst}
use mathlib.Core.Bool.{Bool, true, false, not, ◌&&◌, ◌||◌, false≢true, and-true, and-false, or-false, and_assoc}
use mathlib.Core.List.Memᴰ
use mathlib.Core.List.{List, [], ◌∷◌, ◌++◌, append-nil}
use Prim.Native.Nat.{ℕ, ◌+◌, ◌≤◌}
use native.Mathlib.Omega.{arith}
use lib.Dec.{eqb}
use lib.ListN.{length, drop}
use lib.Seq.{append_snoc}
use Rattle.std.specs.Prelude.{Some, None, Option as CodeOption, is_some as is_found}
use Rattle.std.specs.Option.{option_or, unwrap_or}
use Rattle.std.specs.Bool.{then_some}
use Rattle.lists.specs.Lists.{Bytes, all, any}
use Rattle.lists.proofs.ChoiceLaws.{or_fails, choose_true, choose_false}
use Rattle.lines.specs.Layout.{entry_fields}
use Rattle.tree.specs.LogTree.{LogEntry}
use Rattle.tree.specs.LogText.{entry_in}
use Rattle.rules.specs.Response.{Lookup, Entry, is_included, log_entry}
use Rattle.rules.specs.Search.{is_complete, ends_early, early_then_complete}
use Rattle.rules.specs.Monitoring.{all_included}
use Rattle.rules.specs.Refusals.{Call, lookups_hold}
use Rattle.inputs.specs.Response.{entries_in, loose_in}
use Rattle.checks.specs.declared.sought.Sought.{Sought}
use Rattle.checks.specs.declared.lookups.Summary.{Summary}
use Rattle.checks.specs.declared.lookups.Results.{Results}
use Rattle.checks.specs.Sections.{EntryLines, with_lookups, IsNextEntry, AfterLookups}
use Rattle.checks.specs.Lookups.{TriedWith, IsSummary, no_entries, fit_so_far, AllSteps, AreResults}
use Rattle.checks.specs.Lookups.{AreNextResults}
use Rattle.checks.proofs.SnocLaws.{all_snoc, any_snoc, first-stays, first-snoc}
use Rattle.checks.proofs.SummaryLaws.{summary-complete}

-- ---- short entries, then whole ones

module _ (ladder : List ℕ) (t : ℕ) where
  -- an entry is complete
  abbrev is_whole : Entry → Bool
  is_whole = is_complete ladder t

  -- its ladder ends early
  abbrev is_short : Entry → Bool
  is_short e = ends_early t e.lookups

  -- a complete entry first
  whole-first : (e : Entry) (es : List Entry) → is_whole e ≡ true
      → early_then_complete ladder t (e ∷ es) ≡ all is_whole es
  unfolding early_then_complete
  whole-first e es h =
      choose_true (is_whole e) (λ _. all is_whole es) (λ _. is_short e && early_then_complete ladder t es) h

  -- another first
  short-first : (e : Entry) (es : List Entry) → is_whole e ≡ false
      → early_then_complete ladder t (e ∷ es) ≡ (is_short e && early_then_complete ladder t es)
  unfolding early_then_complete
  short-first e es h =
      choose_false (is_whole e) (λ _. all is_whole es) (λ _. is_short e && early_then_complete ladder t es) h

  -- without a complete entry they are not as asked
  none-whole : (es : List Entry) → any is_whole es ≡ false → early_then_complete ladder t es ≡ false
  unfolding any
  none-whole [] n = unfold early_then_complete in refl
  none-whole (e ∷ es) n =
      let (p, q) = or_fails (is_whole e) (any is_whole es) n in
      short-first e es p ∙ ap (λ (b : Bool). is_short e && b) (none-whole es q) ∙ and-false (is_short e)

  -- once there is one, the next must be complete
  whole-after : (es : List Entry) (e : Entry) → any is_whole es ≡ true
      → early_then_complete ladder t (es ++ e ∷ []) ≡ (early_then_complete ladder t es && is_whole e)
  unfolding any
  whole-after [] e h = absurd (false≢true h)
  whole-after (x ∷ es) e h = go (is_whole x) refl h (whole-after es e)
    where
      judged : List Entry → Bool
      judged = early_then_complete ladder t

      go : (b : Bool) → is_whole x ≡ b → (b || any is_whole es) ≡ true
          → (any is_whole es ≡ true → judged (es ++ e ∷ []) ≡ (judged es && is_whole e))
          → judged (x ∷ es ++ e ∷ []) ≡ (judged (x ∷ es) && is_whole e)
      go true i h f =
          whole-first x (es ++ e ∷ []) i ∙ all_snoc is_whole es e
          ∙ ap (λ (b : Bool). b && is_whole e) (sym (whole-first x es i))
      go false i h f =
          short-first x (es ++ e ∷ []) i ∙ ap (λ (b : Bool). is_short x && b) (f h)
          ∙ sym (and_assoc (is_short x) (judged es) (is_whole e))
          ∙ ap (λ (b : Bool). b && is_whole e) (sym (short-first x es i))

  -- the first one may follow those that end early
  first-whole : (es : List Entry) (e : Entry) → any is_whole es ≡ false → is_whole e ≡ true
      → early_then_complete ladder t (es ++ e ∷ []) ≡ all is_short es
  unfolding any all
  first-whole [] e n h = whole-first e [] h
  first-whole (x ∷ es) e n h =
      let (p, q) = or_fails (is_whole x) (any is_whole es) n in
      short-first x (es ++ e ∷ []) p ∙ ap (λ (b : Bool). is_short x && b) (first-whole es e q h)

  -- whether they are as asked so far, once a complete one was found
  fit_found : (es : List Entry) (e : Entry) (whole fits : Bool) → any is_whole es ≡ true → whole ≡ is_whole e
      → fits ≡ early_then_complete ladder t es
      → (fits && (whole || false)) ≡ early_then_complete ladder t (es ++ e ∷ [])
  fit_found es e whole fits y i h = ap₂ ◌&&◌ h (or-false whole ∙ i) ∙ sym (whole-after es e y)

  -- and before
  fit-unfound : (es : List Entry) (e : Entry) (whole short fits : Bool) → any is_whole es ≡ false
      → whole ≡ is_whole e → short ≡ is_short e → fits ≡ all is_short es
      → (fits && (whole || short)) ≡ fit_so_far ladder t whole (es ++ e ∷ [])
  unfolding fit_so_far
  fit-unfound es e true short fits n i j h = and-true fits ∙ h ∙ sym (first-whole es e n (sym i))
  fit-unfound es e false short fits n i j h = ap₂ ◌&&◌ h j ∙ sym (all_snoc is_short es e)

-- ---- results

-- all lookups of an entry are included
abbrev are_included : Entry → Bool
are_included e = all (λ (l : Lookup). is_included l.result) e.lookups

module _ (s : Sought) where
  -- an entry is complete
  abbrev complete : Entry → Bool
  complete = is_complete s.ladder.now s.version

  -- of no entry
  results-start : AreResults s [] no_entries
  unfolding all any all_included fit_so_far no_entries
  results-start =
      record {
        reached = λ c w a. refl;
        found = refl;
        fits = refl;
        position = λ p e. absurd (found-none p e);
        included = refl;
      }
    where
      found-none : (p : ℕ) → ◌≡◌ {A = CodeOption ℕ} None (Some p) → ⊥
      found-none p e = false≢true (ap is_found e)

  -- the first complete entry of those that are as a search asks
  pub results_fit : (es : List Entry) (x : Results) → AreResults s es x
      → (x.fits && is_found x.first) ≡ early_then_complete s.ladder.now s.version es
  unfolding fit_so_far
  results_fit es x h = go (is_found x.first) h.found h.fits
    where
      go : (b : Bool) → b ≡ any complete es → x.fits ≡ fit_so_far s.ladder.now s.version b es
          → (x.fits && b) ≡ early_then_complete s.ladder.now s.version es
      go true k f = and-true x.fits ∙ f
      go false k f = and-false x.fits ∙ sym (none-whole s.ladder.now s.version es (sym k))

  module _ (es : List Entry) (e : Entry) (x : Results) (y : Summary) (h : AreResults s es x)
      (k : IsSummary s e.prefix_root e.lookups y) where
    -- the lookups of an entry more
    reached-next : (c : Call) → TriedWith c s → AllSteps c (es ++ e ∷ [])
        → (x.reached && y.reached) ≡ all (lookups_hold c) (es ++ e ∷ [])
    unfolding lookups_hold
    reached-next c w a =
        ap₂ ◌&&◌ (h.reached c w (λ d m. a d (Memᴰ.append_left (e ∷ []) m)))
        (k.reached c w (a e (Memᴰ.append_right es (Memᴰ.head refl))))
        ∙ sym (all_snoc (lookups_hold c) es e)

    -- whether all are included
    included-next : (x.included && y.included) ≡ all_included (es ++ e ∷ [])
    unfolding all_included
    included-next = ap₂ ◌&&◌ h.included k.included ∙ sym (all_snoc are_included es e)

    module _ (whole : Bool) (is_whole : whole ≡ complete e) where
      -- the results then, from the first complete entry and what is expected of the others
      abbrev next : CodeOption ℕ → Bool → Results
      next o short =
          record {
            reached = x.reached && y.reached;
            first = o;
            fits = x.fits && (whole || short);
            included = x.included && y.included;
          }

      -- an entry more, after a complete one
      results-found : (p : ℕ) → x.first ≡ Some p → AreResults s (es ++ e ∷ []) (next (Some p) false)
      unfolding fit_so_far
      results-found p f =
          let any_is : any complete es ≡ true = sym h.found ∙ ap is_found f in
          let (d, i, q) = h.position p f in
          record {
            reached = reached-next;
            found = ap (λ (b : Bool). b || complete e) (sym any_is) ∙ sym (any_snoc complete es e);
            fits =
                fit_found s.ladder.now s.version es e whole x.fits any_is is_whole
                (h.fits ∙ ap (λ (o : CodeOption ℕ). fit_so_far s.ladder.now s.version (is_found o) es) f);
            position = λ n g. (d, first-stays complete es e d i, sym (some-is p n g) ∙ q);
            included = included-next;
          }
        where
          some-is : (m n : ℕ) → ◌≡◌ {A = CodeOption ℕ} (Some m) (Some n) → m ≡ n
          some-is m n g = ap (λ (o : CodeOption ℕ). unwrap_or o m) g

      -- and before
      results-unfound : (position : ℕ) → position ≡ e.position → x.first ≡ None
          → AreResults s (es ++ e ∷ []) (next (then_some whole position) y.early)
      unfolding fit_so_far
      results-unfound position p f =
          let none_is : any complete es ≡ false = sym h.found ∙ ap is_found f in
          record {
            reached = reached-next;
            found =
                found_by whole ∙ is_whole ∙ ap (λ (b : Bool). b || complete e) (sym none_is)
                ∙ sym (any_snoc complete es e);
            fits =
                fit-unfound s.ladder.now s.version es e whole y.early x.fits none_is is_whole k.early
                (h.fits ∙ ap (λ (o : CodeOption ℕ). fit_so_far s.ladder.now s.version (is_found o) es) f)
                ∙ ap (λ (b : Bool). fit_so_far s.ladder.now s.version b (es ++ e ∷ [])) (sym (found_by whole));
            position = λ n g. (
              e,
              first-snoc complete es e none_is (sym is_whole ∙ sym (found_by whole) ∙ ap is_found g),
              there whole n g ∙ p,
            );
            included = included-next;
          }
        where
          found_by : (b : Bool) → is_found (then_some b position) ≡ b
          found_by true = refl
          found_by false = refl

          there : (b : Bool) (n : ℕ) → then_some b position ≡ Some n → n ≡ position
          there true n g = sym (ap (λ (o : CodeOption ℕ). unwrap_or o position) g)
          there false n g = absurd (false≢true (ap is_found g))

      -- whichever it is
      results-next : (position : ℕ) → position ≡ e.position → (before : Bool) → is_found x.first ≡ not before
          → AreResults s (es ++ e ∷ [])
          (next (option_or x.first (then_some whole position)) (before && y.early))
      results-next position p before n = go x.first refl before n
        where
          go : (o : CodeOption ℕ) → x.first ≡ o → (b : Bool) → is_found o ≡ not b
              → AreResults s (es ++ e ∷ []) (next (option_or o (then_some whole position)) (b && y.early))
          go (Some q) f false n = results-found q f
          go (Some q) f true n = absurd (false≢true (sym n))
          go None f true n = results-unfound position p f
          go None f false n = absurd (false≢true n)

-- whether an entry is complete, from its summary and the number of versions wanted
abbrev whole_by : Summary → ℕ → Bool
whole_by y wanted = y.begin && eqb y.count wanted && y.fits

-- the results with an entry more
pub next-results : (position : ℕ) (y : Summary) (wanted : ℕ) (x : Results) (before : Bool)
    → is_found x.first ≡ not before
    → AreNextResults position y wanted x
    (record {
      reached = x.reached && y.reached;
      first = option_or x.first (then_some (whole_by y wanted) position);
      fits = x.fits && (whole_by y wanted || (before && y.early));
      included = x.included && y.included;
    })
next-results position y wanted x before n s es e h l p k =
    results-next s es e x y h k (whole_by y wanted) (rw l (summary-complete s e y k)) position p before n

-- ---- the entries, one after the other

-- those before an offset are judged
pub record EntriesJudged (s : Bytes) (sought : Sought) (at : ℕ) (x : Results) : Type 0 where
  done : List Entry
  split : entries_in s ≡ done ++ entries_in (drop at s)
  pub lines : EntryLines (drop at s)
  pub loose : loose_in (drop at s) ≡ []
  pub within : at ≤ length s
  judged : AreResults sought done x

module _ (s : Bytes) (sought : Sought) where
  -- at first none is
  pub judged-none : (x : Results) → x ≡ no_entries → EntryLines s → loose_in s ≡ []
      → EntriesJudged s sought 0 x
  judged-none x e l n =
      record {
        done = [];
        split = refl;
        lines = l;
        loose = n;
        within = omega arith;
        judged =
            subst (AreResults sought []) (sym e)
            (results-start sought);
      }

  module _ (at : ℕ) (x : Results) (h : EntriesJudged s sought at x) where
    -- the entry at the offset is judged too
    pub judged-next : (after next : ℕ) (root : Bytes) (position wanted : ℕ) (entry : Summary) (y : Results)
        → IsNextEntry s at (Some after) → root ≡ (entry_in (drop (at + entry_fields) s)).prefix_root
        → position ≡ (entry_in (drop (at + entry_fields) s)).position → wanted ≡ length sought.ladder.now
        → IsSummary sought root (loose_in (drop after s)) entry
        → AfterLookups s after next
        → AreNextResults position entry wanted x y → EntriesJudged s sought next y
    unfolding log_entry with_lookups
    judged-next after next root position wanted entry y (e, q, i, _, _, _) rooted placed counted summed a n =
        let ls = loose_in (drop after s) in
        let d = with_lookups e ls in
        let is_root : root ≡ e.prefix_root = rooted ∙ ap (λ (z : LogEntry). z.prefix_root) i in
        record {
          done = h.done ++ d ∷ [];
          split =
              h.split
              ∙ ap (λ (es : List Entry). h.done ++ es) (q ∙ ap (λ (es : List Entry). d ∷ es) (sym a.entries))
              ∙ sym (append_snoc h.done d (entries_in (drop next s)));
          lines = a.lines;
          loose = a.loose;
          within = a.within;
          judged =
              n sought h.done d h.judged counted
              (placed ∙ ap (λ (z : LogEntry). z.position) i)
              (subst (λ (r : Bytes). IsSummary sought r ls entry) is_root summed);
        }

    -- where none is left, all are
    pub judged-all : IsNextEntry s at None → AreResults sought (entries_in s) x
    judged-all n =
        let e : entries_in s ≡ h.done =
        h.split ∙ ap (λ (es : List Entry). h.done ++ es) n ∙ append-nil h.done in
        rw e h.judged
