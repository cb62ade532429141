-- The canonical text is cut into its pieces, form by form.
use Rattle.std.proofs.Common.{ℕ, ◌≤◌, Bool, true, false, inl, List, [], ◌∷◌, ◌++◌, Option, Some, None, codes, decimal, refl, sym, subst}
use Rattle.std.specs.List.{flat_map}
use Rattle.std.specs.Str.Parse.{digits_value}
use Rattle.std.specs.Char.{is_ascii_digit}
use Rattle.oss_base.specs.Limits.{largest_numeral}
use Rattle.oss_base.specs.declared.place.Span.{Span}
use Rattle.oss_syntax.specs.Tokens.{Piece, symbols, IsBlank, IsSymbol, IsPieceOf, IsWithinLimit, joined_bytes, ArePieces, is_word_start, is_word_byte}
use Rattle.oss_syntax.specs.Tokens.{FirstPasses, NoFirstPasses}
use Rattle.oss_syntax.specs.declared.words.Word.{Word}
use Rattle.oss_syntax.specs.declared.words.PartWord.{PartWord}
use Rattle.oss_syntax.specs.declared.types.TypeTree.{TypeTree}
use Rattle.oss_syntax.specs.declared.types.TypeTree.TheVariants as type
use Rattle.oss_syntax.specs.declared.refinement.TargetTree.{TargetTree}
use Rattle.oss_syntax.specs.declared.refinement.TargetTree.TheVariants as targets
use Rattle.oss_syntax.specs.declared.expression.PortWord.{PortWord}
use Rattle.oss_syntax.specs.declared.expression.PortWord.TheVariants as port
use Rattle.oss_syntax.specs.declared.expression.PrefixWord.{PrefixWord}
use Rattle.oss_syntax.specs.declared.expression.PrefixWord.TheVariants as prefix
use Rattle.oss_syntax.specs.declared.expression.BinaryWord.{BinaryWord}
use Rattle.oss_syntax.specs.declared.expression.BinaryWord.TheVariants as binary
use Rattle.oss_syntax.specs.declared.expression.Role.{Role}
use Rattle.oss_syntax.specs.Expressions.{Tree, Name, Dotted, Numeral, Truth, Brackets, OfPort, Prefix, Binary}
use Rattle.oss_syntax.specs.Trees.{Item, Port, Contract, RefinementItemTree, Sub, Connection, Refined, Component}
use Rattle.oss_printer.specs.Canonical.{port_word_text, binary_text, direction_text}
use Rattle.oss_printer.proofs.Chunks.{word, numeral, symbol, blank, pieces_append}
use Rattle.oss_printer.proofs.Cutting.{spaced_symbol, open_symbol, close_symbol, semicolon_symbol, comma_symbol, brace_symbol, close_brace_symbol}
use Rattle.oss_printer.proofs.Cutting.{colon_symbol, assign_symbol, minus_symbol, dot_symbol, range_symbol, sign_symbol, name_before, word_before}
use Rattle.oss_printer.proofs.Cutting.{decimal_begins, decimal_value, numeral_to, numeral_before}
use Rattle.oss_printer.proofs.Fits.{IsName, Each, FitsExpr, FitsWord, FitsNames, FitsType, FitsItem, FitsTarget, FitsPart, FitsParts, FitsRefinementItem}
use Rattle.oss_printer.proofs.Fits.{FitsRefinement, FitsComponent}
use Rattle.oss_printer.proofs.Forms.{prefix_pieces, binary_kind, operator, dotted_pieces, expr_pieces, sign_pieces, bound_pieces, next_name_pieces}
use Rattle.oss_printer.proofs.Forms.{names_pieces, type_pieces, closing, item_pieces, target_pieces, part_pieces, next_part_pieces, parts_pieces}
use Rattle.oss_printer.proofs.Forms.{refinement_item_pieces, system_pieces, refinement_pieces, body_pieces, component_pieces, next_component_pieces}
use Rattle.oss_printer.proofs.Forms.{canonical_pieces}

gap : IsBlank (32 ∷ [])
gap = (32, refl, refl)

line_end : IsBlank (10 ∷ [])
line_end = (10, refl, refl)

-- Expressions.

dot_before : (text after : List ℕ) → FirstPasses is_word_start text → IsSymbol (codes ".") ((text ++ []) ++ after)
dot_before [] after begins = absurd begins
dot_before (b ∷ bs) after begins = dot_symbol b ((bs ++ []) ++ after) begins

dotted_cut : (sub port : Word) (after : List ℕ) → IsName sub.text → IsName port.text → NoFirstPasses is_word_byte after
    → ArePieces (dotted_pieces sub port) after
dotted_cut sub port after s p ends =
    (name_before sub.text _ s refl, tt, (dot_before port.text after p.begins, tt, (name_before port.text _ p ends, tt, tt)))

limit_kept : (value : ℕ) → value ≤ largest_numeral → digits_value 10 (decimal value) ≤ largest_numeral
limit_kept value small = subst (λ n. n ≤ largest_numeral) (sym (decimal_value value small)) small

truth_cut : (truth : Bool) (after : List ℕ) (span : Span) → NoFirstPasses is_word_byte after
    → ArePieces (expr_pieces (Truth truth span)) after
truth_cut true after span ends = (word_before (codes "true") _ refl refl ends, tt, tt)
truth_cut false after span ends = (word_before (codes "false") _ refl refl ends, tt, tt)

port_cut : (op : PortWord) (after : List ℕ) → IsPieceOf (word (port_word_text op)).kind (port_word_text op) (40 ∷ after)
port_cut port.Next after = word_before (codes "next") _ refl refl refl
port_cut port.Change after = word_before (codes "change") _ refl refl refl
port_cut port.Rise after = word_before (codes "rise") _ refl refl refl
port_cut port.Fall after = word_before (codes "fall") _ refl refl refl

prefix_cut : (op : PrefixWord) (after : List ℕ) → ArePieces (prefix_pieces op) (32 ∷ after)
prefix_cut prefix.Minus after = (minus_symbol after, tt, tt)
prefix_cut prefix.Not after = (word_before (codes "not") _ refl refl refl, tt, tt)
prefix_cut prefix.Always after = (word_before (codes "always") _ refl refl refl, tt, tt)
prefix_cut prefix.Never after = (word_before (codes "never") _ refl refl refl, tt, tt)
prefix_cut prefix.Future after = (
  word_before (codes "in") _ refl refl refl,
  tt,
  (
    inl gap,
    tt,
    (word_before (codes "the") _ refl refl refl, tt, (inl gap, tt, (word_before (codes "future") _ refl refl refl, tt, tt))),
  ),
)
prefix_cut prefix.Then after = (word_before (codes "then") _ refl refl refl, tt, tt)

operator_cut : (op : BinaryWord) (after : List ℕ)
    → IsPieceOf (Some (binary_kind op)) (binary_text op) (32 ∷ after) × IsWithinLimit (Some (binary_kind op))
    (binary_text op)
unfolding symbols
operator_cut binary.Plus after = (spaced_symbol (codes "+") refl refl (λ _. refl) after, tt)
operator_cut binary.Minus after = (minus_symbol after, tt)
operator_cut binary.Equal after = (spaced_symbol (codes "=") refl refl (λ _. refl) after, tt)
operator_cut binary.NotEqual after = (spaced_symbol (codes "!=") refl refl (λ _. refl) after, tt)
operator_cut binary.Less after = (spaced_symbol (codes "<") refl refl (λ _. refl) after, tt)
operator_cut binary.AtMost after = (spaced_symbol (codes "<=") refl refl (λ _. refl) after, tt)
operator_cut binary.Greater after = (spaced_symbol (codes ">") refl refl (λ _. refl) after, tt)
operator_cut binary.AtLeast after = (spaced_symbol (codes ">=") refl refl (λ _. refl) after, tt)
operator_cut binary.Until after = (word_before (codes "until") _ refl refl refl, tt)
operator_cut binary.Releases after = (word_before (codes "releases") _ refl refl refl, tt)
operator_cut binary.And after = (word_before (codes "and") _ refl refl refl, tt)
operator_cut binary.Or after = (word_before (codes "or") _ refl refl refl, tt)
operator_cut binary.Implies after = (word_before (codes "implies") _ refl refl refl, tt)
operator_cut binary.Iff after = (word_before (codes "iff") _ refl refl refl, tt)

expr_cut : (role : Role) (t : Tree) (after : List ℕ) → FitsExpr role t → NoFirstPasses is_word_byte after
    → ArePieces (expr_pieces t) after
expr_cut role (Name name) after fits ends = (name_before name.text _ fits ends, tt, tt)
expr_cut role (Dotted sub port) after fits ends = dotted_cut sub port after fits.1 fits.2 ends
expr_cut role (Numeral value _) after fits ends = (numeral_before value _ fits ends, limit_kept value fits, tt)
expr_cut role (Truth truth span) after fits ends = truth_cut truth after span ends
expr_cut role (Brackets inside _) after fits ends = (
  open_symbol _,
  tt,
  pieces_append (expr_pieces inside) (symbol (codes ")") ∷ []) after
      (expr_cut role inside (41 ∷ after) fits refl) (close_symbol _, tt, tt),
)
expr_cut role (OfPort op port _) after fits ends =
    (port_cut op _, tt, (open_symbol _, tt, (name_before port.text _ fits.1 refl, tt, (close_symbol _, tt, tt))))
expr_cut role (Prefix op operand _) after fits ends =
    pieces_append (prefix_pieces op) (blank 32 ∷ expr_pieces operand) after (prefix_cut op (joined_bytes (expr_pieces operand) ++ after))
    (inl gap, tt, expr_cut role operand after fits.2 ends)
expr_cut role (Binary op left right _) after fits ends =
    let middle = operator_cut op (joined_bytes (expr_pieces right) ++ after) in
    pieces_append (expr_pieces left) (blank 32 ∷ operator op ∷ blank 32 ∷ expr_pieces right) after
    (expr_cut role left _ fits.3 refl)
    (inl gap, tt, (middle.0, middle.1, (inl gap, tt, expr_cut role right after fits.4 ends)))

-- Lists.

each_cut : {A : Type 0} → (pieces : A → List Piece) (F : A → Type 0)
    → ((x : A) (after : List ℕ) → F x → ArePieces (pieces x) after)
    → (xs : List A) (after : List ℕ) → Each F xs → ArePieces (flat_map pieces xs) after
each_cut pieces F one [] after fits = tt
each_cut pieces F one (x ∷ xs) after fits =
    pieces_append (pieces x) (flat_map pieces xs) after (one x (joined_bytes (flat_map pieces xs) ++ after) fits.0) (each_cut pieces F one xs after fits.1)

-- Types.

sign_before : (ds after : List ℕ) → FirstPasses is_ascii_digit ds → IsSymbol (codes "-") ((ds ++ []) ++ after)
sign_before [] after begins = absurd begins
sign_before (d ∷ ds) after begins = sign_symbol d ((ds ++ []) ++ after) begins

signed_cut : (negative : Bool) (value : ℕ) (after : List ℕ) → value ≤ largest_numeral
    → NoFirstPasses is_ascii_digit after
    → ArePieces (sign_pieces negative ++ numeral (decimal value) ∷ []) after
signed_cut true value after small ends =
    (sign_before (decimal value) after (decimal_begins value small), tt, (numeral_to value _ small ends, limit_kept value small, tt))
signed_cut false value after small ends = (numeral_to value _ small ends, limit_kept value small, tt)

names_end : (names : List Word) (after : List ℕ) → NoFirstPasses is_word_byte after
    → NoFirstPasses is_word_byte (joined_bytes (flat_map next_name_pieces names) ++ after)
names_end [] after ends = ends
names_end (_ ∷ _) after ends = refl

next_names_cut : (names : List Word) (after : List ℕ) → Each FitsWord names → NoFirstPasses is_word_byte after
    → ArePieces (flat_map next_name_pieces names) after
next_names_cut [] after fits ends = tt
next_names_cut (name ∷ names) after fits ends =
    pieces_append (next_name_pieces name) (flat_map next_name_pieces names) after
    (comma_symbol _, tt, (inl gap, tt, (name_before name.text _ fits.0 (names_end names after ends), tt, tt)))
    (next_names_cut names after fits.1 ends)

names_cut : (names : List Word) (after : List ℕ) → FitsNames names → NoFirstPasses is_word_byte after
    → ArePieces (names_pieces names) after
names_cut [] after fits ends = absurd fits
names_cut (name ∷ names) after fits ends = (name_before name.text _ fits.0 (names_end names after ends), tt, next_names_cut names after fits.1 ends)

type_cut : (kind : TypeTree) (after : List ℕ) → FitsType kind → ArePieces (type_pieces kind) (59 ∷ after)
type_cut type.Boolean after fits = (word_before (codes "boolean") _ refl refl refl, tt, tt)
type_cut type.Event after fits = (word_before (codes "event") _ refl refl refl, tt, tt)
type_cut (type.Range lo hi) after fits =
    pieces_append (bound_pieces lo) (symbol (codes "..") ∷ bound_pieces hi) (59 ∷ after)
    (signed_cut lo.negative lo.value _ fits.0 refl)
    (range_symbol _, tt, signed_cut hi.negative hi.value (59 ∷ after) fits.1 refl)
type_cut (type.Enum names) after fits = (
  brace_symbol _,
  tt,
  pieces_append (names_pieces names) (symbol (codes "}") ∷ []) (59 ∷ after)
      (names_cut names (125 ∷ 59 ∷ after) fits refl) (close_brace_symbol _, tt, tt),
)

-- Items.

closing_cut : (after : List ℕ) → ArePieces closing after
closing_cut after = (semicolon_symbol _, tt, (inl line_end, tt, tt))

direction_cut : (input : Bool) (after : List ℕ)
    → IsPieceOf (word (direction_text input)).kind (direction_text input) (32 ∷ after)
direction_cut true after = word_before (codes "INPUT") _ refl refl refl
direction_cut false after = word_before (codes "OUTPUT") _ refl refl refl

item_cut : (item : Item) (after : List ℕ) → FitsItem item → ArePieces (item_pieces item) after
item_cut (Port input name kind) after fits = (
  inl gap,
  tt,
  (
    inl gap,
    tt,
    (
      inl gap,
      tt,
      (
        inl gap,
        tt,
        (
          direction_cut input _,
          tt,
          (
            inl gap,
            tt,
            (
              word_before (codes "PORT") _ refl refl refl,
              tt,
              (
                inl gap,
                tt,
                (
                  name_before name.text _ fits.0 refl,
                  tt,
                  (
                    colon_symbol _,
                    tt,
                    (
                      inl gap,
                      tt,
                      pieces_append (type_pieces kind) closing after (type_cut kind _ fits.1) (closing_cut after),
                    ),
                  ),
                ),
              ),
            ),
          ),
        ),
      ),
    ),
  ),
)
item_cut (Contract name assume guarantee) after fits = (
  inl gap,
  tt,
  (
    inl gap,
    tt,
    (
      inl gap,
      tt,
      (
        inl gap,
        tt,
        (
          word_before (codes "CONTRACT") _ refl refl refl,
          tt,
          (
            inl gap,
            tt,
            (
              name_before name.text _ fits.0 refl,
              tt,
              (
                inl line_end,
                tt,
                (
                  inl gap,
                  tt,
                  (
                    inl gap,
                    tt,
                    (
                      inl gap,
                      tt,
                      (
                        inl gap,
                        tt,
                        (
                          inl gap,
                          tt,
                          (
                            inl gap,
                            tt,
                            (
                              word_before (codes "assume") _ refl refl refl,
                              tt,
                              (
                                colon_symbol _,
                                tt,
                                (
                                  inl gap,
                                  tt,
                                  pieces_append (expr_pieces assume) _ after (expr_cut _ assume _ fits.1.0 refl) (
                                    semicolon_symbol _,
                                    tt,
                                    (
                                      inl line_end,
                                      tt,
                                      (
                                        inl gap,
                                        tt,
                                        (
                                          inl gap,
                                          tt,
                                          (
                                            inl gap,
                                            tt,
                                            (
                                              inl gap,
                                              tt,
                                              (
                                                inl gap,
                                                tt,
                                                (
                                                  inl gap,
                                                  tt,
                                                  (
                                                    word_before (codes "guarantee") _ refl refl refl,
                                                    tt,
                                                    (
                                                      colon_symbol _,
                                                      tt,
                                                      (
                                                        inl gap,
                                                        tt,
                                                        pieces_append (expr_pieces guarantee) closing after
                                                            (expr_cut _ guarantee _ fits.2.0 refl) (closing_cut after),
                                                      ),
                                                    ),
                                                  ),
                                                ),
                                              ),
                                            ),
                                          ),
                                        ),
                                      ),
                                    ),
                                  ),
                                ),
                              ),
                            ),
                          ),
                        ),
                      ),
                    ),
                  ),
                ),
              ),
            ),
          ),
        ),
      ),
    ),
  ),
)

target_cut : (target : TargetTree) (after : List ℕ) → FitsTarget target → ArePieces (target_pieces target) (32 ∷ after)
target_cut (targets.Own name) after fits = (name_before name.text _ fits refl, tt, tt)
target_cut (targets.OfSub sub port) after fits = dotted_cut sub port (32 ∷ after) fits.0 fits.1 refl

parts_end : (parts : List PartWord) (after : List ℕ) → NoFirstPasses is_word_byte after
    → NoFirstPasses is_word_byte (joined_bytes (flat_map next_part_pieces parts) ++ after)
parts_end [] after ends = ends
parts_end (_ ∷ _) after ends = refl

next_parts_cut : (parts : List PartWord) (after : List ℕ) → Each FitsPart parts → NoFirstPasses is_word_byte after
    → ArePieces (flat_map next_part_pieces parts) after
next_parts_cut [] after fits ends = tt
next_parts_cut (part ∷ parts) after fits ends =
    pieces_append (next_part_pieces part) (flat_map next_part_pieces parts) after
    (comma_symbol _, tt, (inl gap, tt, dotted_cut part.sub part.contract _ fits.0.0 fits.0.1 (parts_end parts after ends)))
    (next_parts_cut parts after fits.1 ends)

parts_cut : (parts : List PartWord) (after : List ℕ) → FitsParts parts → ArePieces (parts_pieces parts) (59 ∷ after)
parts_cut [] after fits = absurd fits
parts_cut (part ∷ parts) after fits =
    pieces_append (part_pieces part) (flat_map next_part_pieces parts) (59 ∷ after)
    (dotted_cut part.sub part.contract _ fits.0.0 fits.0.1 (parts_end parts (59 ∷ after) refl))
    (next_parts_cut parts (59 ∷ after) fits.1 refl)

refinement_item_cut : (item : RefinementItemTree) (after : List ℕ) → FitsRefinementItem item
    → ArePieces (refinement_item_pieces item) after
refinement_item_cut (Sub name component) after fits = (
  inl gap,
  tt,
  (
    inl gap,
    tt,
    (
      inl gap,
      tt,
      (
        inl gap,
        tt,
        (
          word_before (codes "SUB") _ refl refl refl,
          tt,
          (
            inl gap,
            tt,
            (
              name_before name.text _ fits.0 refl,
              tt,
              (colon_symbol _, tt, (inl gap, tt, (name_before component.text _ fits.1 refl, tt, closing_cut after))),
            ),
          ),
        ),
      ),
    ),
  ),
)
refinement_item_cut (Connection target source) after fits = (
  inl gap,
  tt,
  (
    inl gap,
    tt,
    (
      inl gap,
      tt,
      (
        inl gap,
        tt,
        (
          word_before (codes "CONNECTION") _ refl refl refl,
          tt,
          (
            inl gap,
            tt,
            pieces_append (target_pieces target) _ after (target_cut target _ fits.0) (
              inl gap,
              tt,
              (
                assign_symbol _,
                tt,
                (
                  inl gap,
                  tt,
                  pieces_append (expr_pieces source) closing after (expr_cut _ source _ fits.1.0 refl) (closing_cut after),
                ),
              ),
            ),
          ),
        ),
      ),
    ),
  ),
)
refinement_item_cut (Refined name parts) after fits = (
  inl gap,
  tt,
  (
    inl gap,
    tt,
    (
      inl gap,
      tt,
      (
        inl gap,
        tt,
        (
          word_before (codes "CONTRACT") _ refl refl refl,
          tt,
          (
            inl gap,
            tt,
            (
              name_before name.text _ fits.0 refl,
              tt,
              (
                inl gap,
                tt,
                (
                  word_before (codes "REFINEDBY") _ refl refl refl,
                  tt,
                  (
                    inl gap,
                    tt,
                    pieces_append (parts_pieces parts) closing after (parts_cut parts _ fits.1) (closing_cut after),
                  ),
                ),
              ),
            ),
          ),
        ),
      ),
    ),
  ),
)

-- Components.

refinement_cut : (refinement : Option (List RefinementItemTree)) (after : List ℕ) → FitsRefinement refinement
    → ArePieces (refinement_pieces refinement) after
refinement_cut (Some items) after fits = (
  inl gap,
  tt,
  (
    inl gap,
    tt,
    (
      word_before (codes "REFINEMENT") _ refl refl refl,
      tt,
      (
        inl line_end,
        tt,
        each_cut refinement_item_pieces FitsRefinementItem refinement_item_cut items after fits,
      ),
    ),
  ),
)
refinement_cut None after fits = tt

body_cut : (c : Component) (after : List ℕ) → FitsComponent c → ArePieces (body_pieces c) after
body_cut c after fits = (
  inl line_end,
  tt,
  (
    inl gap,
    tt,
    (
      inl gap,
      tt,
      (
        word_before (codes "INTERFACE") _ refl refl refl,
        tt,
        (
          inl line_end,
          tt,
          pieces_append (flat_map item_pieces c.interface) (refinement_pieces c.refinement) after
              (each_cut item_pieces FitsItem item_cut c.interface _ fits.interface) (refinement_cut c.refinement after fits.refinement),
        ),
      ),
    ),
  ),
)

system_cut : (system : Option Span) (after : List ℕ) → ArePieces (system_pieces system) (10 ∷ after)
system_cut (Some _) after = (inl gap, tt, (word_before (codes "system") _ refl refl refl, tt, tt))
system_cut None after = tt

named_cut : (name : Word) (ps : List Piece) (after : List ℕ) → IsName name.text
    → NoFirstPasses is_word_byte (joined_bytes ps ++ after)
    → ArePieces ps after → ArePieces (word (codes "COMPONENT") ∷ blank 32 ∷ word name.text ∷ ps) after
named_cut name ps after fits ends more =
    (word_before (codes "COMPONENT") _ refl refl refl, tt, (inl gap, tt, (name_before name.text _ fits ends, tt, more)))

after_system : (system : Option Span) (ps : List Piece) (after : List ℕ)
    → NoFirstPasses is_word_byte (joined_bytes (system_pieces system ++ blank 10 ∷ ps) ++ after)
after_system (Some _) ps after = refl
after_system None ps after = refl

component_cut : (c : Component) (after : List ℕ) → FitsComponent c → ArePieces (component_pieces c) after
component_cut c after fits =
    named_cut c.name (system_pieces c.system ++ body_pieces c) after fits.name
    (after_system c.system (blank 32 ∷ blank 32 ∷ word (codes "INTERFACE") ∷ blank 10 ∷
    (flat_map item_pieces c.interface ++ refinement_pieces c.refinement)) after)
    (pieces_append (system_pieces c.system) (body_pieces c) after (system_cut c.system _) (body_cut c after fits))

next_component_cut : (c : Component) (after : List ℕ) → FitsComponent c → ArePieces (next_component_pieces c) after
next_component_cut c after fits = (inl line_end, tt, component_cut c after fits)

pub canonical_cut : (components : List Component) → Each FitsComponent components
    → ArePieces (canonical_pieces components) []
canonical_cut [] fits = tt
canonical_cut (c ∷ components) fits =
    pieces_append (component_pieces c) (flat_map next_component_pieces components) []
    (component_cut c _ fits.0) (each_cut next_component_pieces FitsComponent next_component_cut components [] fits.1)
