-- From no document: the session for C, as bytes that the caller keeps between calls. The layout is ours. Assumes nothing.
use Rattle.std.specs.Prelude.{ℕ, Bool, List, [], ◌∷◌, ◌++◌, eqb, ltb, length, take, drop, get_or}
use Rattle.answer.specs.Number.{number_bytes, number_of}
use Rattle.answer.specs.Tests.{either, both}
use Rattle.session.specs.declared.context.AuthenticatedContext.{AuthenticatedContext}

-- a session of its parts
unfoldable pub context_of : ℕ → ℕ → ℕ → ℕ → List ℕ → List ℕ → List ℕ → ℕ → AuthenticatedContext
context_of scheme number ceiling listed id credentials nodes turned =
    record {
      transaction_number = number;
      transaction_id = id;
      scheme = scheme;
      credentials = credentials;
      nodes = nodes;
      node_count = listed;
      turned_away = turned;
      ceiling = ceiling;
    }

-- ---- the layout, 180 bytes: the version (1 byte, with the value 2), scheme mark (1), transaction number (2), ceiling (2), number of nodes (2),
-- transaction ID (6), credentials (36), nodes (128), turned-away count (2). Numbers have their low byte first.

unfoldable pub encode : AuthenticatedContext → List ℕ
encode s =
    (2 ∷ s.scheme ∷ [])
    ++ number_bytes s.transaction_number
    ++ number_bytes s.ceiling
    ++ number_bytes s.node_count
    ++ s.transaction_id
    ++ s.credentials
    ++ s.nodes
    ++ number_bytes s.turned_away

unfoldable pub decode : List ℕ → AuthenticatedContext
decode b =
    record {
      transaction_number = number_of (drop 2 b);
      transaction_id = take 6 (drop 8 b);
      scheme = get_or b 1 0;
      credentials = take 36 (drop 14 b);
      nodes = take 128 (drop 50 b);
      node_count = number_of (drop 6 b);
      turned_away = number_of (drop 178 b);
      ceiling = number_of (drop 4 b);
    }

-- the exact size, the version, a mark that is known, at most 64 nodes
unfoldable pub is_session : List ℕ → Bool
is_session b = both (eqb (length b) 180) (both (eqb (get_or b 0 0) 2) (both (either (eqb (get_or b 1 0) 1) (eqb (get_or b 1 0) 2)) (ltb (number_of (drop 6 b)) 65)))
