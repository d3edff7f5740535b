-- The text of a request. Lambda API Reference of 2015-03-31, `Invoke`, over HTTP/1.1 (RFC 9112) on loopback.
use Rattle.std.specs.Prelude.{ℕ, List, ◌++◌, length, codes}
use Rattle.httparse.specs.Ascii.{crlf_bytes}
use Rattle.esm_model.specs.Numbers.{decimal}

-- the first line of the request that calls a function
unfoldable pub request_line : List ℕ → List ℕ
request_line name = codes "POST /2015-03-31/functions/" ++ name ++ codes "/invocations HTTP/1.1" ++ crlf_bytes

-- the header lines of a request with an event of `len` bytes, and the empty line after them
unfoldable pub header_lines : ℕ → List ℕ
header_lines len =
    codes "Host: 127.0.0.1" ++ crlf_bytes
    ++ codes "Content-Type: application/json" ++ crlf_bytes
    ++ codes "Content-Length: " ++ decimal len ++ crlf_bytes
    ++ codes "Connection: close" ++ crlf_bytes
    ++ crlf_bytes

-- the request that calls a function with an event
abbrev pub request_text : List ℕ → List ℕ → List ℕ
request_text name event = request_line name ++ header_lines (length event) ++ event
