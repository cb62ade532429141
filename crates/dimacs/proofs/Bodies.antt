-- The words of clauses: which one may come next, and when all are there.
use Rattle.std.proofs.Common.{◌≡◌, ℕ, zero, suc, ◌+◌, ◌-◌, ◌<◌, ◌≤◌, ◌⊎◌, inl, inr, Bool, true, false, List, [], ◌∷◌, ◌++◌, length, map}
use Rattle.std.proofs.Common.{refl, sym, ap, ◌∙◌, subst, arith, decimal, if◌then◌else◌}
use Rattle.std.specs.List.{All, flat_map}
use Rattle.std.proofs.lemmas.List.{append_assoc, append-nil, map-append, length_push, length-append}
use Rattle.std.proofs.lemmas.List.Concat.{flat_map-append}
use Rattle.std.proofs.lemmas.List.Elements.{All-push, All-append}
use Rattle.std.proofs.lemmas.Fmt.{decimal_injective, decimal_digit}
use Rattle.cnf.specs.declared.lit.Lit.{Lit}
use Rattle.dimacs.specs.declared.entries.Entry.{Entry}
use Rattle.dimacs.specs.declared.entries.Entry.TheVariants as entries
use Rattle.std.specs.Str.Lines.{lines}
use Rattle.dimacs.specs.Dimacs.{IsDimacs, words_of_lines, literal_word, clause_end, clause_words, header_words, most_of_kind, AreWordsOf, CanGoOn}
use Rattle.dimacs.specs.DimacsReading.{entry_word, IsEntryBelow, AreTaken}
use Rattle.dimacs.proofs.PrintedNumbers.{decimal_no_minus}
use Rattle.dimacs.proofs.Breaks.{NeverGoesOn, respelled}

abbrev pub Below : ℕ → List Lit → Type 0
Below n lits = All (λ (lit : Lit). lit.var < n) lits

abbrev pub AllBelow : ℕ → List (List Lit) → Type 0
AllBelow n clauses = All (All (λ (lit : Lit). lit.var < n)) clauses

first_of : {X : Type 0} (P : X → Type 0) (x : X) (xs : List X) → All P (x ∷ xs) → P x
first_of P x xs h = h 0 x (omega arith)

rest_of : {X : Type 0} (P : X → Type 0) (x : X) (xs : List X) → All P (x ∷ xs) → All P xs
rest_of P x xs h = λ k d l. h (suc k) d (omega arith)

pub below_first : (n : ℕ) (l : Lit) (ls : List Lit) → Below n (l ∷ ls) → l.var < n
below_first n l ls h = first_of (λ (lit : Lit). lit.var < n) l ls h

pub below_rest : (n : ℕ) (l : Lit) (ls : List Lit) → Below n (l ∷ ls) → Below n ls
below_rest n l ls h = rest_of (λ (lit : Lit). lit.var < n) l ls h

pub all_first : (n : ℕ) (c : List Lit) (cs : List (List Lit)) → AllBelow n (c ∷ cs) → Below n c
all_first n c cs h = first_of (All (λ (lit : Lit). lit.var < n)) c cs h

pub all_rest : (n : ℕ) (c : List Lit) (cs : List (List Lit)) → AllBelow n (c ∷ cs) → AllBelow n cs
all_rest n c cs h = rest_of (All (λ (lit : Lit). lit.var < n)) c cs h

all_with : (n : ℕ) (c : List Lit) (cs : List (List Lit)) → Below n c → AllBelow n cs → AllBelow n (c ∷ cs)
all_with n c cs h a zero d l = h
all_with n c cs h a (suc k) d l = a k d (omega arith)

-- ---- one word

abbrev pub word_by : Bool → ℕ → List ℕ
word_by sign var = if sign then decimal (var + 1) else 45 ∷ decimal (var + 1)

no_end_by : (sign : Bool) (var : ℕ) → var < most_of_kind → word_by sign var ≡ clause_end → ⊥
no_end_by true var h e =
    let zero_word : decimal 0 ≡ clause_end = decimal_digit 0 (omega arith) in
    let same : var + 1 ≡ 0 = decimal_injective (var + 1) 0 (omega arith) (omega arith) (e ∙ sym zero_word) in
    absurd (omega arith)
no_end_by false var h e = decimal_no_minus 0 (decimal (var + 1)) (omega arith) (e ∙ sym (decimal_digit 0 (omega arith)))

pub no_end : (n : ℕ) (l : Lit) → n ≤ most_of_kind → l.var < n → literal_word l ≡ clause_end → ⊥
no_end n l m h e = no_end_by l.positive l.var (omega arith) e

tail_same : (a b : ℕ) (xs ys : List ℕ) → a ∷ xs ≡ b ∷ ys → xs ≡ ys
tail_same a b xs ys e = cc

pub same_var_by : (s t : Bool) (v u : ℕ) → v < most_of_kind → u < most_of_kind → word_by s v ≡ word_by t u → v ≡ u
same_var_by true true v u h k e =
    let same : v + 1 ≡ u + 1 = decimal_injective (v + 1) (u + 1) (omega arith) (omega arith) e in omega arith
same_var_by true false v u h k e = absurd (decimal_no_minus (v + 1) (decimal (u + 1)) (omega arith) (sym e))
same_var_by false true v u h k e = absurd (decimal_no_minus (u + 1) (decimal (v + 1)) (omega arith) e)
same_var_by false false v u h k e =
    let same : v + 1 ≡ u + 1 = decimal_injective (v + 1) (u + 1) (omega arith) (omega arith) (tail_same 45 45 _ _ e) in omega arith

-- two entries with one word have one variable
pub below_by_word : (n : ℕ) (a b : Entry) → n ≤ most_of_kind → IsEntryBelow most_of_kind a → IsEntryBelow n b
    → entry_word a ≡ entry_word b → IsEntryBelow n a
below_by_word n entries.End b m h k e = tt
below_by_word n (entries.Of l) entries.End m h k e = absurd (no_end most_of_kind l (omega arith) h e)
below_by_word n (entries.Of l) (entries.Of r) m h k e =
    let same : l.var ≡ r.var = same_var_by l.positive r.positive l.var r.var h (omega arith) e in omega arith

-- ---- rows of words

pub first_word : (x y : List ℕ) (xs ys : List (List ℕ)) → x ∷ xs ≡ y ∷ ys → x ≡ y
first_word x y xs ys e = cc

pub rest_words : (x y : List ℕ) (xs ys : List (List ℕ)) → x ∷ xs ≡ y ∷ ys → xs ≡ ys
rest_words x y xs ys e = cc

-- the word is that of an entry over n variables
pub record IsEntryWord (n : ℕ) (word : List ℕ) : Type 0 where
  pub entry : Entry
  pub below : IsEntryBelow n entry
  pub written : word ≡ entry_word entry

-- the word behind the literals of a front of a clause
in_clause : (n : ℕ) → n ≤ most_of_kind → (read clause : List Lit) (word : List ℕ) (more rest : List (List ℕ))
    → Below n read → Below n clause
    → map literal_word read ++ (word ∷ more) ≡ map literal_word clause ++ (clause_end ∷ rest) → IsEntryWord n word
in_clause n m [] [] word more rest a b e = record { entry = entries.End; below = tt; written = first_word _ _ _ _ e }
in_clause n m [] (l ∷ ls) word more rest a b e =
    record { entry = entries.Of l; below = below_first n l ls b; written = first_word _ _ _ _ e }
in_clause n m (k ∷ ks) [] word more rest a b e = absurd (no_end n k m (below_first n k ks a) (first_word _ _ _ _ e))
in_clause n m (k ∷ ks) (l ∷ ls) word more rest a b e =
    in_clause n m ks ls word more rest (below_rest n k ks a) (below_rest n l ls b) (rest_words _ _ _ _ e)

-- what is behind one clause
pub behind_clause : (n : ℕ) → n ≤ most_of_kind → (read clause : List Lit) (xs ys : List (List ℕ)) → Below n read → Below n clause
    → map literal_word read ++ (clause_end ∷ xs) ≡ map literal_word clause ++ (clause_end ∷ ys) → xs ≡ ys
behind_clause n m [] [] xs ys a b e = rest_words _ _ _ _ e
behind_clause n m [] (l ∷ ls) xs ys a b e = absurd (no_end n l m (below_first n l ls b) (sym (first_word _ _ _ _ e)))
behind_clause n m (k ∷ ks) [] xs ys a b e = absurd (no_end n k m (below_first n k ks a) (first_word _ _ _ _ e))
behind_clause n m (k ∷ ks) (l ∷ ls) xs ys a b e =
    behind_clause n m ks ls xs ys (below_rest n k ks a) (below_rest n l ls b) (rest_words _ _ _ _ e)

-- literals alone have no end
no_end_among : (n : ℕ) → n ≤ most_of_kind → (read clause : List Lit) (rest : List (List ℕ)) → Below n read
    → map literal_word read ≡ map literal_word clause ++ (clause_end ∷ rest) → ⊥
no_end_among n m [] [] rest a e = cc
no_end_among n m [] (l ∷ ls) rest a e = cc
no_end_among n m (k ∷ ks) [] rest a e = no_end n k m (below_first n k ks a) (first_word _ _ _ _ e)
no_end_among n m (k ∷ ks) (l ∷ ls) rest a e = no_end_among n m ks ls rest (below_rest n k ks a) (rest_words _ _ _ _ e)

pub not_none : (lits : List Lit) (word : List ℕ) (more : List (List ℕ)) → map literal_word lits ++ (word ∷ more) ≡ [] → ⊥
not_none [] word more e = cc
not_none (l ∷ ls) word more e = cc

no_literals : (lits : List Lit) → map literal_word lits ≡ [] → lits ≡ []
no_literals [] e = refl
no_literals (l ∷ ls) e = absurd cc

words_on : (c : List Lit) (cs : List (List Lit)) (more : List (List ℕ))
    → flat_map clause_words (c ∷ cs) ++ more ≡ map literal_word c ++ (clause_end ∷ (flat_map clause_words cs ++ more))
words_on c cs more = append_assoc (clause_words c) (flat_map clause_words cs) more
    ∙ append_assoc (map literal_word c) (clause_end ∷ []) (flat_map clause_words cs ++ more)

pub words_of : (c : List Lit) (cs : List (List Lit))
    → flat_map clause_words (c ∷ cs) ≡ map literal_word c ++ (clause_end ∷ flat_map clause_words cs)
words_of c cs = append_assoc (map literal_word c) (clause_end ∷ []) (flat_map clause_words cs)

-- the word behind clauses and the literals of one that is unfinished
pub record IsNextEntry (n : ℕ) (word : List ℕ) (done all : List (List Lit)) : Type 0 where
  pub next : IsEntryWord n word
  pub more : length done < length all

next_entry : (n : ℕ) → n ≤ most_of_kind → (done all : List (List Lit)) (unfinished : List Lit) (word : List ℕ) (more : List (List ℕ))
    → AllBelow n done → Below n unfinished → AllBelow n all
    → flat_map clause_words done ++ (map literal_word unfinished ++ (word ∷ more)) ≡ flat_map clause_words all
    → IsNextEntry n word done all
next_entry n m [] [] unfinished word more d u a e = absurd (not_none unfinished word more e)
next_entry n m [] (c ∷ cs) unfinished word more d u a e = record {
  next = in_clause n m unfinished c word more (flat_map clause_words cs) u (all_first n c cs a) (e ∙ words_of c cs);
  more = omega arith;
}
next_entry n m (k ∷ ks) [] unfinished word more d u a e =
    absurd (not_none k clause_end (flat_map clause_words ks ++ (map literal_word unfinished ++ (word ∷ more)))
    (sym (words_on k ks (map literal_word unfinished ++ (word ∷ more))) ∙ e))
next_entry n m (k ∷ ks) (c ∷ cs) unfinished word more d u a e =
    let behind = behind_clause n m k c _ _ (all_first n k ks d) (all_first n c cs a)
    (sym (words_on k ks (map literal_word unfinished ++ (word ∷ more))) ∙ (e ∙ words_of c cs)) in
    let r = next_entry n m ks cs unfinished word more (all_rest n k ks d) u (all_rest n c cs a) behind in
    record { next = r.next; more = let lt : length ks < length cs = r.more in omega arith }

-- where these are the words of all clauses
pub record AreAll (done all : List (List Lit)) (unfinished : List Lit) : Type 0 where
  pub none : unfinished ≡ []
  pub count : length done ≡ length all

are_all : (n : ℕ) → n ≤ most_of_kind → (done all : List (List Lit)) (unfinished : List Lit)
    → AllBelow n done → Below n unfinished → AllBelow n all
    → flat_map clause_words done ++ map literal_word unfinished ≡ flat_map clause_words all → AreAll done all unfinished
are_all n m [] [] unfinished d u a e = record { none = no_literals unfinished e; count = refl }
are_all n m [] (c ∷ cs) unfinished d u a e = absurd (no_end_among n m unfinished c (flat_map clause_words cs) u (e ∙ words_of c cs))
are_all n m (k ∷ ks) [] unfinished d u a e =
    absurd (not_none k clause_end (flat_map clause_words ks ++ map literal_word unfinished)
    (sym (words_on k ks (map literal_word unfinished)) ∙ e))
are_all n m (k ∷ ks) (c ∷ cs) unfinished d u a e =
    let behind = behind_clause n m k c _ _ (all_first n k ks d) (all_first n c cs a)
    (sym (words_on k ks (map literal_word unfinished)) ∙ (e ∙ words_of c cs)) in
    let r = are_all n m ks cs unfinished (all_rest n k ks d) u (all_rest n c cs a) behind in
    record { none = r.none; count = ap suc r.count }

-- ---- behind a header

pub record IsSameHeader (v c w d : ℕ) (xs ys : List (List ℕ)) : Type 0 where
  pub vars : v ≡ w
  pub count : c ≡ d
  pub behind : xs ≡ ys

pub same_header : (v c w d : ℕ) (xs ys : List (List ℕ)) → v ≤ most_of_kind → c ≤ most_of_kind → w ≤ most_of_kind → d ≤ most_of_kind
    → header_words v c ++ xs ≡ header_words w d ++ ys → IsSameHeader v c w d xs ys
same_header v c w d xs ys hv hc hw hd e =
    let numbers : decimal v ∷ decimal c ∷ xs ≡ decimal w ∷ decimal d ∷ ys = rest_words _ _ _ _ (rest_words _ _ _ _ e) in
    let counts : decimal c ∷ xs ≡ decimal d ∷ ys = rest_words _ _ _ _ numbers in
    record {
      vars = decimal_injective v w (omega arith) (omega arith) (first_word _ _ _ _ numbers);
      count = decimal_injective c d (omega arith) (omega arith) (first_word _ _ _ _ counts);
      behind = rest_words _ _ _ _ counts;
    }

-- The numbers of a header.
pub record AreNumbers (vars count : ℕ) : Type 0 where
  pub vars_most : vars ≤ most_of_kind
  pub count_most : count ≤ most_of_kind

pub nothing_taken : (vars count : ℕ) → AreTaken (header_words vars count) vars count [] []
nothing_taken vars count = record {
  written = refl;
  known = λ k d l. absurd (omega arith);
  unfinished_known = λ k d l. absurd (omega arith);
  few = omega arith;
  room = inl refl;
}

-- the words so far, and more behind them
regroup : (h f m : List (List ℕ)) (more : List (List ℕ)) → (h ++ (f ++ m)) ++ more ≡ h ++ (f ++ (m ++ more))
regroup h f m more = append_assoc h (f ++ m) more ∙ ap (λ (ws : List (List ℕ)). h ++ ws) (append_assoc f m more)

taken_next : (words : List (List ℕ)) (vars count : ℕ) (done : List (List Lit)) (unfinished : List Lit) (word : List ℕ)
    → AreNumbers vars count → AreTaken words vars count done unfinished
    → (more : List (List ℕ)) (w : ℕ) (all : List (List Lit)) → AreWordsOf ((words ++ word ∷ []) ++ more) w all
    → IsEntryWord vars word × (length done < count)
taken_next words vars count done unfinished word n t more w all s =
    let e : header_words vars count ++ (flat_map clause_words done ++ (map literal_word unfinished ++ (word ∷ more)))
    ≡ header_words w (length all) ++ flat_map clause_words all
    = sym (append_assoc words (word ∷ []) more ∙ (ap (λ (ws : List (List ℕ)). ws ++ (word ∷ more)) t.written
    ∙ regroup (header_words vars count) (flat_map clause_words done) (map literal_word unfinished) (word ∷ more))) ∙ s.written in
    let h = same_header vars count w (length all) _ _ n.vars_most n.count_most s.vars_most s.clauses_most e in
    let known : AllBelow vars all = subst (λ (v : ℕ). AllBelow v all) (sym h.vars) s.known in
    let r = next_entry vars n.vars_most done all unfinished word more t.known t.unfinished_known known h.behind in
    (r.next, let lt : length done < length all = r.more in let same : count ≡ length all = h.count in omega arith)

-- a word that is none that may come next
pub refused_word : (words : List (List ℕ)) (vars count : ℕ) (done : List (List Lit)) (unfinished : List Lit) (word : List ℕ)
    → AreNumbers vars count → AreTaken words vars count done unfinished
    → ((entry : Entry) → IsEntryBelow vars entry → word ≡ entry_word entry → length done ≡ count)
    → NeverGoesOn (words ++ word ∷ [])
refused_word words vars count done unfinished word n t full more w all s =
    let r = taken_next words vars count done unfinished word n t more w all s in
    let lt : length done < count = r.1 in
    let same : length done ≡ count = full r.0.entry r.0.below r.0.written in absurd (omega arith)

-- the words end too early
pub too_few : (words : List (List ℕ)) (vars count : ℕ) (done : List (List Lit)) (unfinished : List Lit)
    → AreNumbers vars count → AreTaken words vars count done unfinished
    → (unfinished ≡ [] → length done ≡ count → ⊥) → (w : ℕ) (all : List (List Lit)) → AreWordsOf words w all → ⊥
too_few words vars count done unfinished n t wrong w all s =
    let e = sym t.written ∙ s.written in
    let h = same_header vars count w (length all) _ _ n.vars_most n.count_most s.vars_most s.clauses_most e in
    let known : AllBelow vars all = subst (λ (v : ℕ). AllBelow v all) (sym h.vars) s.known in
    let r = are_all vars n.vars_most done all unfinished t.known t.unfinished_known known h.behind in
    wrong r.none (r.count ∙ sym h.count)

-- the words are all there
pub all_there : (words : List (List ℕ)) (vars count : ℕ) (done : List (List Lit)) (unfinished : List Lit)
    → AreNumbers vars count → AreTaken words vars count done unfinished → unfinished ≡ [] → length done ≡ count → AreWordsOf words vars done
all_there words vars count done unfinished n t none same = record {
  written = t.written ∙ (ap (λ (lits : List Lit). header_words vars count ++ (flat_map clause_words done ++ map literal_word lits)) none
      ∙ (ap (λ (ws : List (List ℕ)). header_words vars count ++ ws) (append-nil (flat_map clause_words done))
      ∙ ap (λ (c : ℕ). header_words vars c ++ flat_map clause_words done) (sym same)));
  known = t.known;
  vars_most = n.vars_most;
  clauses_most = let most : count ≤ most_of_kind = n.count_most in omega arith;
}

pub whole_text : (text : List ℕ) (words : List (List ℕ)) (vars count : ℕ) (done : List (List Lit)) (unfinished : List Lit)
    (ended stated : ℕ) → AreNumbers vars count → AreTaken words vars count done unfinished → words ≡ words_of_lines (lines text)
    → (unfinished ≡ []) × (ended ≡ count) → ended ≡ length done → stated ≡ vars → IsDimacs text stated done
whole_text text words vars count done unfinished ended stated n t all whole counted same =
    subst (λ (v : ℕ). IsDimacs text v done) (sym same)
    (respelled words (words_of_lines (lines text)) vars done all
    (all_there words vars count done unfinished n t whole.0 (sym counted ∙ whole.1)))

-- ---- one more entry

ended_words : (h f m : List (List ℕ)) (word : List ℕ) → (h ++ (f ++ m)) ++ word ∷ [] ≡ h ++ ((f ++ ((m ++ word ∷ []) ++ [])) ++ [])
ended_words h f m word = regroup h f m (word ∷ [])
    ∙ ap (λ (ws : List (List ℕ)). h ++ ws)
    (sym (append-nil (f ++ ((m ++ word ∷ []) ++ [])) ∙ ap (λ (ws : List (List ℕ)). f ++ ws) (append-nil (m ++ word ∷ []))))

pub taken_end : (words : List (List ℕ)) (vars count : ℕ) (done : List (List Lit)) (unfinished : List Lit)
    → AreTaken words vars count done unfinished → length done < count
    → AreTaken (words ++ clause_end ∷ []) vars count (done ++ unfinished ∷ []) []
taken_end words vars count done unfinished t lt = record {
  written = ap (λ (ws : List (List ℕ)). ws ++ clause_end ∷ []) t.written
      ∙ (ended_words (header_words vars count) (flat_map clause_words done) (map literal_word unfinished) clause_end
      ∙ ap (λ (ws : List (List ℕ)). header_words vars count ++ (ws ++ [])) (sym (flat_map-append clause_words done (unfinished ∷ []))));
  known = All-push (All (λ (lit : Lit). lit.var < vars)) done unfinished t.known t.unfinished_known;
  unfinished_known = λ k d l. absurd (omega arith);
  few = rw length_push (omega arith);
  room = inl refl;
}

pub taken_literal : (words : List (List ℕ)) (vars count : ℕ) (done : List (List Lit)) (unfinished : List Lit) (lit : Lit)
    → AreTaken words vars count done unfinished → length done < count → lit.var < vars
    → AreTaken (words ++ literal_word lit ∷ []) vars count done (unfinished ++ lit ∷ [])
taken_literal words vars count done unfinished lit t lt below = record {
  written = ap (λ (ws : List (List ℕ)). ws ++ literal_word lit ∷ []) t.written
      ∙ (regroup (header_words vars count) (flat_map clause_words done) (map literal_word unfinished) (literal_word lit ∷ [])
      ∙ ap (λ (ws : List (List ℕ)). header_words vars count ++ (flat_map clause_words done ++ ws)) (sym (map-append literal_word unfinished (lit ∷ []))));
  known = t.known;
  unfinished_known = All-push (λ (at : Lit). at.var < vars) unfinished lit t.unfinished_known below;
  few = t.few;
  room = inr lt;
}

-- ---- what may still come

abbrev empty_clauses : ℕ → List (List Lit)
empty_clauses zero = []
empty_clauses (suc n) = [] ∷ empty_clauses n

so_many : (n : ℕ) → length (empty_clauses n) ≡ n
so_many zero = refl
so_many (suc n) = ap suc (so_many n)

empty_below : (vars n : ℕ) → AllBelow vars (empty_clauses n)
empty_below vars zero = λ k d l. absurd (omega arith)
empty_below vars (suc n) = all_with vars [] (empty_clauses n) (λ k d l. absurd (omega arith)) (empty_below vars n)

-- clauses that end what is unfinished, and the last of them
pub record AreRest (vars count : ℕ) (done : List (List Lit)) (unfinished : List Lit) (rest : List (List Lit)) (more : List (List ℕ)) : Type 0 where
  pub ends : map literal_word unfinished ++ more ≡ flat_map clause_words rest
  pub known : AllBelow vars rest
  pub size : length done + length rest ≡ count

with_rest : (words : List (List ℕ)) (vars count : ℕ) (done : List (List Lit)) (unfinished : List Lit) (rest : List (List Lit))
    (more : List (List ℕ)) → AreNumbers vars count → AreTaken words vars count done unfinished → AreRest vars count done unfinished rest more
    → CanGoOn words
with_rest words vars count done unfinished rest more n t r =
    let sizes : length (done ++ rest) ≡ count = length-append done rest ∙ r.size in
    let body : flat_map clause_words done ++ (map literal_word unfinished ++ more) ≡ flat_map clause_words (done ++ rest)
    = ap (λ (ws : List (List ℕ)). flat_map clause_words done ++ ws) r.ends ∙ sym (flat_map-append clause_words done rest) in (
      more,
      vars,
      done ++ rest,
      record {
        written = ap (λ (ws : List (List ℕ)). ws ++ more) t.written
            ∙ (regroup (header_words vars count) (flat_map clause_words done) (map literal_word unfinished) more
            ∙ (λ j. header_words vars (sym sizes j) ++ body j));
        known = All-append (All (λ (lit : Lit). lit.var < vars)) done rest t.known r.known;
        vars_most = n.vars_most;
        clauses_most = let most : count ≤ most_of_kind = n.count_most in omega arith;
      },
    )

-- words that were taken may go on
pub taken_can : (words : List (List ℕ)) (vars count : ℕ) (done : List (List Lit)) (unfinished : List Lit)
    → AreNumbers vars count → AreTaken words vars count done unfinished → CanGoOn words
taken_can words vars count done unfinished n t = by t.room
  where
    by : (unfinished ≡ []) ⊎ (length done < count) → CanGoOn words
    by (inl none) =
        let few : length done ≤ count = t.few in
        let many = so_many (count - length done) in
        with_rest words vars count done unfinished (empty_clauses (count - length done))
        (flat_map clause_words (empty_clauses (count - length done))) n t (record {
          ends = ap (λ (lits : List Lit). map literal_word lits ++ flat_map clause_words (empty_clauses (count - length done))) none;
          known = empty_below vars (count - length done);
          size = omega arith;
        })
    by (inr lt) =
        let last : ℕ = count - length done - 1 in
        let many = so_many last in
        with_rest words vars count done unfinished (unfinished ∷ empty_clauses last) (clause_end ∷ flat_map clause_words (empty_clauses last)) n t (record {
          ends = sym (words_of unfinished (empty_clauses last));
          known = all_with vars unfinished (empty_clauses last) t.unfinished_known (empty_below vars last);
          size = omega arith;
        })
