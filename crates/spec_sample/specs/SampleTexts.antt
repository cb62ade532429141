-- The sample text of a size: a chain of components, each of which hands its request to a stage and then to the next of
-- the chain. What each of them promises is response, a pattern of M. B. Dwyer, G. S. Avrunin and J. C. Corbett,
-- Patterns in Property Specifications for Finite-State Verification (1999). That the promises of its parts refine it is
-- as in A. Cimatti and S. Tonetta, Contracts-Refinement Proof System for Component-Embedded Systems (2015).
use Rattle.std.specs.Prelude.{ℕ, ◌+◌, nat_eq, nat_lt, List, [], ◌++◌, codes, decimal, if◌then◌else◌}
use Rattle.std.specs.List.{flat_map, range_with_len}

-- A sample has from 1 up to so many components in its chain.
abbrev pub largest_sample : ℕ
largest_sample = 400

-- Each component takes requests, and every request is acknowledged at some time.
unfoldable pub stage_interface : List ℕ
stage_interface =
    codes "  INTERFACE\n    INPUT PORT req: boolean;\n    OUTPUT PORT ack: boolean;\n"
    ++ codes "    CONTRACT resp\n      assume: true;\n      guarantee: always (req implies in the future ack);\n"

-- Through a stage to the next of the chain, which has the number `next`.
unfoldable pub inner_refinement : ℕ → List ℕ
inner_refinement next =
    codes "  REFINEMENT\n    SUB h: Stage;\n    SUB t: L" ++ decimal next ++ codes ";\n    CONNECTION h.req := req;\n"
    ++ codes "    CONNECTION t.req := h.ack;\n    CONNECTION ack := t.ack;\n"
    ++ codes "    CONTRACT resp REFINEDBY h.resp, t.resp;\n"

-- The last of the chain: through a stage alone.
unfoldable pub last_refinement : List ℕ
last_refinement =
    codes "  REFINEMENT\n    SUB h: Stage;\n    CONNECTION h.req := req;\n    CONNECTION ack := h.ack;\n"
    ++ codes "    CONTRACT resp REFINEDBY h.resp;\n"

abbrev pub chain_refinement : ℕ → ℕ → List ℕ
chain_refinement n i = if nat_lt i n then inner_refinement (i + 1) else last_refinement

-- The first of the chain is the system.
abbrev pub system_word : ℕ → List ℕ
system_word i = if nat_eq i 1 then codes " system" else []

-- The i-th of a chain of n, and the empty line after it.
unfoldable pub chain_component : ℕ → ℕ → List ℕ
chain_component n i =
    codes "COMPONENT L" ++ decimal i ++ system_word i ++ codes "\n"
    ++ stage_interface ++ chain_refinement n i ++ codes "\n"

-- The chain in its order, and the stage.
unfoldable pub sample_text : ℕ → List ℕ
sample_text n = flat_map (chain_component n) (range_with_len 1 n) ++ codes "COMPONENT Stage\n" ++ stage_interface
